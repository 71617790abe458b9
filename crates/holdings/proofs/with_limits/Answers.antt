use mathlib.Core.Path.{refl}
use Rattle.holdings.specs.Holdings.{with_limits}
use Rattle.holdings.proofs.with_limits.Goals as goal

pub returns : goal.returns
unfolding with_limits
returns c = refl
