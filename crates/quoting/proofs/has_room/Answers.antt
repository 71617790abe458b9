use mathlib.Core.Path.{sym, ◌∙◌}
use borrow.Author.Tests.{not-true, not-false}
use Rattle.quoting.proofs.has_room.Goals as goal

pub returns-then-not-in_last_hour : goal.returns-then-not-in_last_hour
returns-then-not-in_last_hour c = rw (sym c.in_last_hour.ensures ∙ not-true _ c.if-not-in_last_hour.true-raw)

pub returns : goal.returns
returns c = rw (sym c.in_last_hour.ensures ∙ not-false _ c.if-not-in_last_hour.false-raw)
