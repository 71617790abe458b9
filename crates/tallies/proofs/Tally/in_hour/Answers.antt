use Rattle.tallies.specs.Tally.{in_hour}
use Rattle.tallies.proofs.Tally.in_hour.Goals as goal

pub returns : goal.returns
unfolding in_hour
returns c = rw c.with_rate.ensures
