-- Each turn leaves a sound memory and a part of the block to go on with, and takes at most a block of the file.
use Rattle.std.specs.Prelude.{◌≡◌, ◌*◌, ◌≤◌, length}
use Rattle.standing.specs.Made.{Sound}
use Rattle.window.specs.Window.{Within}
use Rattle.printing.proofs.run.take_turns.Given as goal

abbrev pub invariant-loop : goal.invariant-loop
invariant-loop g l =
    Sound l.counts l.money
    × (Within (length l.block) l.w × ((length l.block ≡ length l.initial.block) × ((length l.room ≡ length l.initial.room) × (l.w.place ≤ 65536 * l.counter))))
