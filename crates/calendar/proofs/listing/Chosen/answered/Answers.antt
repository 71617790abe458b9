-- The two answers are those of the definition.
use Rattle.calendar.proofs.listing.Chosen.answered.Goals as goal

pub returns-then-self : goal.returns-then-self
returns-then-self c = rw c.if-self.true
