-- Each arm is a case of the definition.
use Rattle.calendar.proofs.listing.Chosen.has_place.Goals as goal

pub returns-then-quarterly : goal.returns-then-quarterly
returns-then-quarterly c = rw c.if-quarterly.true

pub returns-else-quarterly : goal.returns-else-quarterly
returns-else-quarterly c = rw c.if-quarterly.false
