-- The flag is the conjunction, by whichever arm it came.
use mathlib.Core.Path.{◌≡◌, ◌∙◌}
use mathlib.Core.Bool.{◌&&◌}
use Rattle.calendar.proofs.listing.Chosen.placed.Goals as goal
use Rattle.calendar.proofs.listing.Chosen.placed.Goals.{Joined-self, then-self, else-self}

all_known : (c : Joined-self) → c.if-self.known ≡ c.args.self.known && c.args.known
all_known c = elim c.if-self.branch [ then-self w ↦ w.known-is ∙ rw w.if-self.true | else-self w ↦ w.known-is ∙ rw w.if-self.false ]

pub returns-then-quarterly : goal.returns-then-quarterly
returns-then-quarterly c = rw (all_known (goal.at.returns-then-quarterly c).Joined-self, c.if-quarterly.true)

pub returns-else-quarterly : goal.returns-else-quarterly
returns-else-quarterly c = rw (all_known (goal.at.returns-else-quarterly c).Joined-self, c.if-quarterly.false)
