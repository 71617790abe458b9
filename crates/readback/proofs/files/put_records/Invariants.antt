use Rattle.std.proofs.Common.{length, ◌-◌, ◌≤◌}
use Rattle.readback.proofs.files.put_records.Given as goal

abbrev pub invariant-loop-place : goal.invariant-loop-place
invariant-loop-place g l = l.place ≤ length l.bytes

abbrev pub decreases-loop-place : goal.decreases-loop-place
decreases-loop-place g l = length l.bytes - l.place
