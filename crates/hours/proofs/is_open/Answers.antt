use borrow.Author.Tests.{eq-eqb, ne_eqb}
use Rattle.hours.proofs.is_open.Goals as goal

pub returns-then-point-eq2 : goal.returns-then-point-eq2
returns-then-point-eq2 c = rw (eq-eqb c.args.point 2 c.if-point-eq2.true)

pub returns : goal.returns
returns c = rw (ne_eqb c.args.point 2 c.if-point-eq2.false)
