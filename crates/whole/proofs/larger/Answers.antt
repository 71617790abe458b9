-- std's answer, by another test.
use Rattle.std.proofs.Common.{rules}
use Rattle.whole.specs.Larger.{larger_is}
use Rattle.whole.proofs.larger.Goals as goal

pub returns : goal.returns
returns c = let e = larger_is c.args.a c.args.b in search rules
