-- Each digit takes two places at most.
use Rattle.std.specs.Prelude.{◌≡◌, ◌+◌, ◌*◌, ◌≤◌, length}
use Rattle.pages.proofs.pieces.put_grouped.Given as goal

abbrev pub invariant-loop-i : goal.invariant-loop-i
invariant-loop-i l = (length l.room ≡ length l.initial.room) × ((l.next ≤ l.at + 2 * l.i) × (l.count ≤ 20))
