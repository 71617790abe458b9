use mathlib.Core.Path.{refl}
use Rattle.lists.specs.Those.{those}
use Rattle.whole.specs.Sums.{sum_z}
use Rattle.tallies.specs.Means.{mean_of, total}
use Rattle.tallies.specs.Tally.{latest_of, tally_from}
use Rattle.tallies.proofs.empty_tally.Goals as goal

pub returns : goal.returns
unfolding tally_from latest_of those mean_of total sum_z
returns c = refl
