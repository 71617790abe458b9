-- The test is that of the definition, and the digits stand where it has them.
use borrow.Author.Tests.{eq-eqb, ne_eqb}
use Rattle.parsing.proofs.guessing.time_in.Goals as goal

pub returns-then-byte_at-eq58 : goal.returns-then-byte_at-eq58
returns-then-byte_at-eq58 c =
    rw (← c.byte_at.ensures, eq-eqb _ 58 c.if-byte_at-eq58.true, c.two_at.ensures.0, c.two_at-then-byte_at-eq58.ensures.0, c.two_at-then-byte_at-eq58-2.ensures.0)

pub returns : goal.returns
returns c = rw (← c.byte_at.ensures, ne_eqb _ 58 c.if-byte_at-eq58.false) c.number_of.ensures
