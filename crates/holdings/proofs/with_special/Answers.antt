use Rattle.whole.specs.Machine.{back}
use Rattle.holdings.specs.Holdings.{with_special}
use Rattle.holdings.proofs.with_special.Goals as goal

pub returns : goal.returns
unfolding with_special
returns c = rw (back c.ranges.special)
