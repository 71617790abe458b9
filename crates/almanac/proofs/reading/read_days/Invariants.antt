use Prim.Native.Nat.{◌-◌}
use Rattle.std.proofs.Common.{length}
use Rattle.almanac.proofs.reading.read_days.Given as goal

abbrev pub decreases-loop-at : goal.decreases-loop-at
decreases-loop-at l = length l.line - l.at
