use mathlib.Core.Path.{sym, ap, ◌∙◌}
use Rattle.holdings.specs.Limits.{by_totals}
use Rattle.holdings.specs.Limits.{side_of}
use Rattle.holdings.proofs.side_of.Goals as goal

pub returns-then-is_beyond : goal.returns-then-is_beyond
unfolding side_of
returns-then-is_beyond c = rw (sym c.is_beyond.ensures ∙ c.if-is_beyond.true)

pub returns : goal.returns
unfolding side_of
returns c =
    c.by_totals.ensures ∙ ap by_totals c.totals_of-t.ensures ∙ rw (sym c.is_beyond.ensures ∙ c.if-is_beyond.false)
