-- The answer is the last working day below the day that the loop has reached.
use mathlib.Core.Path.{sym, ap, ◌∙◌}
use Rattle.days.specs.Days.{last_working}
use Rattle.days.specs.DayLaws.{last-hit, last-miss, last_none}
use Rattle.days.proofs.working_before.Goals as goal

pub loop-earlier-init : goal.loop-earlier-init
loop-earlier-init c = sym (ap (last_working _) c.min-earlier.ensures)

pub returns-then-is_working : goal.returns-then-is_working
returns-then-is_working c = sym (c.loop-earlier.invariant ∙ last-hit _ _ c.loop-earlier-test.true (sym c.is_working.ensures ∙ c.if-is_working.true))

pub loop-earlier-preserved : goal.loop-earlier-preserved
loop-earlier-preserved c = c.loop-earlier.invariant ∙ last-miss _ _ c.loop-earlier-test.true (sym c.is_working.ensures ∙ c.if-is_working.false)

pub returns : goal.returns
returns c = sym (c.loop-earlier.invariant ∙ last_none _ _ c.loop-earlier-test.false)
