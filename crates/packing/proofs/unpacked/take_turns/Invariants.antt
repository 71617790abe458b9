use mathlib.Core.Path.{◌≡◌}
use Prim.Native.Nat.{◌*◌, ◌≤◌}
use lib.ListN.{length}
use Rattle.window.specs.Window.{Within}
use Rattle.packing.proofs.unpacked.take_turns.Given as goal

abbrev pub invariant-loop : goal.invariant-loop
invariant-loop g l =
    Within (length l.block) l.w
    × ((length l.block ≡ length l.initial.block) × ((length l.room ≡ length l.initial.room) × (l.w.place ≤ 65536 * l.counter)))
