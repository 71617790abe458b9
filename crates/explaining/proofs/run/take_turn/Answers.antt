-- A turn begins and ends with a part of the block, and keeps the memory and the table of a history.
use Rattle.std.specs.Prelude.{ℕ, ◌≤◌}
use Rattle.std.proofs.Common.{arith}
use lib.ListN.{length-take}
use Rattle.window.specs.declared.Window.{Window}
use Rattle.explaining.specs.States.{Reaches}
use Rattle.explaining.specs.StateLaws.{carried}
use Rattle.explaining.specs.declared.followed.State.{State}
use Rattle.explaining.proofs.run.take_turn.Goals as goal

-- what is followed is within the window
within : {end : ℕ} (w : Window) {first s : State} → end ≤ w.to → Reaches end first s → s.at ≤ w.to
within w short reached = let inside = reached.inside in omega arith

pub returns : goal.returns
returns g c =
    let inside = c.refill-w.ensures.within in
    let place = c.refill-w.ensures.place in
    let on = c.follow_block-followed.ensures.reaches.on in
    let last = within c.refill-w.result (simp length-take (omega arith)) c.follow_block-followed.ensures.reaches in
    rw place at
    (carried c.refill-w.result c.follow_block-followed.new.s c.turned.result inside on last c.follow_block-followed.ensures.followable_2
    c.turned.ensures)
