use Rattle.std.proofs.Common.{rules}
use Rattle.std.proofs.iter.runs.Sources.{sums}
use Rattle.encoding.specs.Sizes.{sizes-sum, sizes-most}
use Rattle.encoding.proofs.numbers_size.Goals as goal

pub sum-requires-clause-fits : goal.sum-requires-clause-fits
sum-requires-clause-fits c = let m = sizes-most c.args.list.now in search (rules, sums)

pub returns : goal.returns
returns c = let e = sizes-sum c.args.list.now in search (rules, sums)
