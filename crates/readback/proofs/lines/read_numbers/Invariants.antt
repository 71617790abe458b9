use Prim.Native.Nat.{◌-◌}
use Rattle.std.proofs.Common.{length}
use Rattle.readback.proofs.lines.read_numbers.Given as goal

abbrev pub decreases-loop-at : goal.decreases-loop-at
decreases-loop-at l = length l.text - l.at
