use Rattle.tallies.specs.Tally.{in_day}
use Rattle.tallies.proofs.Tally.in_day.Goals as goal

pub returns : goal.returns
unfolding in_day
returns c = rw c.shifted.ensures
