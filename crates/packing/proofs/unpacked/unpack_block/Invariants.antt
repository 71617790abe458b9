use mathlib.Core.Path.{◌≡◌}
use Prim.Native.Nat.{◌-◌}
use lib.ListN.{length}
use Rattle.packing.specs.Turns.{Reaches}
use Rattle.packing.proofs.unpacked.unpack_block.Given as goal

abbrev pub invariant-loop-room : goal.invariant-loop-room
invariant-loop-room l = (length l.room ≡ length l.initial.room) × Reaches (length l.bytes) l.initial.p.at l.p

abbrev pub decreases-loop-room : goal.decreases-loop-room
decreases-loop-room l = length l.bytes - l.p.at
