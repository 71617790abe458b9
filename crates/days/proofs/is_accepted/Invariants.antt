use mathlib.Core.Path.{◌≡◌}
use mathlib.Core.Bool.{true}
use Prim.Native.Nat.{◌-◌, ◌≤◌}
use Rattle.days.specs.Days.{is_working, no_long_break}
use Rattle.days.specs.DayLaws.{off_run}
use Rattle.days.proofs.is_accepted.Given as goal

abbrev pub invariant-loop-counted : goal.invariant-loop-counted
invariant-loop-counted l = (l.run ≡ off_run (is_working l.exceptions) l.counted) × (l.run ≤ 14) × (no_long_break (is_working l.exceptions) (l.counted - 14) ≡ true)
