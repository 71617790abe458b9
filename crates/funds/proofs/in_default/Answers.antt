use mathlib.Core.Path.{refl}
use Rattle.funds.specs.Funds.{in_default}
use Rattle.funds.proofs.in_default.Goals as goal

pub returns : goal.returns
unfolding in_default
returns c = refl
