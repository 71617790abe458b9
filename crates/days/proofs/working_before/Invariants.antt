use mathlib.Core.Path.{◌≡◌}
use Rattle.days.specs.Days.{is_working, last_working, working_before}
use Rattle.days.proofs.working_before.Given as goal

abbrev pub invariant-loop-earlier : goal.invariant-loop-earlier
invariant-loop-earlier l = working_before (is_working l.exceptions) l.day ≡ last_working (is_working l.exceptions) l.earlier
