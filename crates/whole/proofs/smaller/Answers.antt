-- std's answer, by another test.
use Rattle.std.proofs.Common.{rules}
use Rattle.whole.specs.Larger.{smaller_is}
use Rattle.whole.proofs.smaller.Goals as goal

pub returns : goal.returns
returns c = let e = smaller_is c.args.a c.args.b in search rules
