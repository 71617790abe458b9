-- Each turn keeps the memory and the table of a history and a part of the block to go on with, and takes at most a block of the file.
use Rattle.std.specs.Prelude.{◌≡◌, ◌*◌, ◌≤◌, length}
use Rattle.desk.specs.Follows.{Followable}
use Rattle.window.specs.Window.{Within}
use Rattle.explaining.proofs.run.take_turns.Given as goal

abbrev pub invariant-loop : goal.invariant-loop
invariant-loop g l =
    Followable l.q.account l.counts l.money l.labels l.amounts l.s.rows
    × (Within (length l.block) l.w
    × ((l.w.place ≤ 65536 * l.counter)
    × ((length l.labels ≡ length l.initial.labels)
    × ((length l.amounts ≡ length l.initial.amounts)
    × ((length l.notes ≡ length l.initial.notes) × ((length l.page ≡ length l.initial.page) × (length l.block ≡ length l.initial.block)))))))
