use Prim.Native.Nat.{◌-◌, ◌≤◌}
use Rattle.std.proofs.Common.{length}
use Rattle.days.proofs.reach.Given as goal

abbrev pub invariant-loop-most : goal.invariant-loop-most
invariant-loop-most l = 1 ≤ l.most

abbrev pub decreases-loop-most : goal.decreases-loop-most
decreases-loop-most l = length l.exceptions - l.most
