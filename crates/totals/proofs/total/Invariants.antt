use mathlib.Core.Path.{◌≡◌}
use lib.ListN.{length, take}
use Rattle.lists.specs.Zipped.{zipped}
use Rattle.whole.specs.Sums.{sum_z}
use Rattle.totals.specs.Totals.{asked}
use Rattle.totals.proofs.total.Given as goal

-- the sum over the rows that the loop has passed
abbrev pub invariant-loop-p : goal.invariant-loop-p
invariant-loop-p l = l.sum ≡ sum_z (take (length l.yielded) (zipped asked l.fn.positions l.fn.margins))
