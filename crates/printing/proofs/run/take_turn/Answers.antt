-- A turn begins and ends with a part of the block, what it writes is within the room, and that is what the file prints.
use Rattle.std.specs.Prelude.{Bool, false, ℕ, ◌≤◌, Result}
use Rattle.std.proofs.Common.{ControlFlow, Continue, Break, arith}
use lib.ListN.{length-take}
use Rattle.window.specs.declared.Window.{Window}
use Rattle.window.specs.Window.{Within}
use Rattle.printing.specs.Turns.{GoesOn, Reaches}
use Rattle.printing.specs.Blocks.{start, TurnedTo}
use Rattle.printing.specs.BlockLaws.{turn-taken, turned_taken}
use Rattle.printing.specs.declared.run.Progress.{Progress}
use Rattle.printing.specs.declared.run.BadRecord.{BadRecord}
use Rattle.printing.proofs.run.take_turn.Goals as goal

-- a run goes on within the block, at most a block further on in the file
goes_on : {size end : ℕ} (w : Window) {p : Progress} (taken : Result Unit BadRecord) (t : ControlFlow Bool Window) → Within size w → end ≤ w.to → Reaches end (start w) p → TurnedTo p taken w t
    → GoesOn size w.place t
goes_on w taken (Continue next) within short reached (good, is) =
    let inside = reached.inside in
    let on = reached.on in
    let along = reached.along in
    rw is ((omega arith, within.1), omega arith)
goes_on w taken (Break written) within short reached turned = tt

pub returns-then-is_err-clause-turn_taken : goal.returns-then-is_err-clause-turn_taken
returns-then-is_err-clause-turn_taken g c = turn-taken c.refill-w.ensures c.print_block-printed.ensures.printed_up_to (Break false) tt

pub returns-clause-goes_on : goal.returns-clause-goes_on
returns-clause-goes_on g c =
    let refilled = c.refill-w.ensures in
    rw refilled.place at
    (goes_on c.refill-w.result _ c.turned.result refilled.within (simp length-take (omega arith)) c.print_block-printed.ensures.reaches_2 c.turned.ensures)

pub returns-clause-turn_taken : goal.returns-clause-turn_taken
returns-clause-turn_taken g c = turned_taken c.refill-w.ensures c.print_block-printed.ensures.printed_up_to c.turned.result c.turned.ensures
