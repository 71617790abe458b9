use mathlib.Core.Path.{◌≡◌}
use Prim.Native.Nat.{◌+◌}
use Rattle.days.specs.Days.{is_working}
use Rattle.calendar.specs.Choosing.{chosen_before}
use Rattle.calendar.proofs.listing.listed_on.Given as goal

abbrev pub invariant-loop-number : goal.invariant-loop-number
invariant-loop-number l = (l.chosen ≡ chosen_before (is_working l.exceptions) l.t l.number) × (l.chosen.quarterly + l.chosen.others ≡ 6 → ⊥)
