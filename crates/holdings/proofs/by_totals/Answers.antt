use mathlib.Core.Path.{sym, ◌∙◌}
use Rattle.holdings.proofs.by_totals.Goals as goal

pub returns-then-is_over : goal.returns-then-is_over
returns-then-is_over c = rw (sym c.is_over.ensures ∙ c.if-is_over.true)

pub returns : goal.returns
returns c = rw (sym c.is_over.ensures ∙ c.if-is_over.false)
