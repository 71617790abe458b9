use Prim.Native.Nat.{◌≤◌}
use Rattle.pages.proofs.dates.date_of.Given as goal

abbrev pub invariant-loop-i : goal.invariant-loop-i
invariant-loop-i l = l.left ≤ 365
