use mathlib.Core.Path.{refl}
use Rattle.funds.specs.Funds.{new_funds}
use Rattle.funds.proofs.new_funds.Goals as goal

pub returns : goal.returns
unfolding new_funds
returns c = refl
