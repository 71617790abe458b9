use mathlib.Core.Path.{◌≡◌}
use Prim.Native.Nat.{◌-◌}
use lib.ListN.{length}
use Rattle.packing.specs.PackTurns.{Reaches}
use Rattle.packing.proofs.packed.pack_block.Given as goal

abbrev pub invariant-loop-errors : goal.invariant-loop-errors
invariant-loop-errors g l = (length l.room ≡ length l.initial.room) × Reaches (length l.bytes) l.initial.p.at l.p

abbrev pub decreases-loop-errors : goal.decreases-loop-errors
decreases-loop-errors g l = length l.bytes - l.p.at
