-- Each record brings the end nearer, no text goes past the room, and the records' texts are what the file prints.
use Rattle.std.specs.Prelude.{◌≡◌, ◌-◌, length, Ok}
use Rattle.standing.specs.Made.{Sound}
use Rattle.printing.specs.Turns.{Reaches}
use Rattle.printing.specs.Blocks.{Follows, PrintedUpTo}
use Rattle.printing.proofs.run.print_block.Given as goal

abbrev pub invariant-loop-counts : goal.invariant-loop-counts
invariant-loop-counts l =
    Sound l.counts l.money
    × ((length l.room ≡ length l.initial.room)
    × (Reaches (length l.bytes) l.initial.p l.p × PrintedUpTo (Follows l.ended) l.bytes l.initial.p l.initial.counts l.initial.money l.initial.room l.p (Ok tt) l.counts l.money l.room))

abbrev pub decreases-loop-counts : goal.decreases-loop-counts
decreases-loop-counts l = length l.bytes - l.p.at
