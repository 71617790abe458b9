-- Each refusal is one of the definition's tests.
use borrow.Author.Tests.{lt-ltb, le-ltb, le-leb, lt-leb}
use native.Mathlib.Omega.{arith}
use Rattle.months.specs.Months.{is_code, month_of}
use Rattle.months.proofs.Month.from_code.Goals as goal

pub returns-then-code-gt9999 : goal.returns-then-code-gt9999
unfolding month_of is_code
returns-then-code-gt9999 c = simp (le-ltb c.args.code 10000 (omega arith))

pub returns-then-of_year-lt1 : goal.returns-then-of_year-lt1
unfolding month_of is_code
returns-then-of_year-lt1 c = simp (lt-ltb c.args.code 10000 (omega arith), lt-leb _ _ c.if-of_year-lt1.true)

pub returns-then-of_year-gt12 : goal.returns-then-of_year-gt12
unfolding month_of is_code
returns-then-of_year-gt12 c = simp (lt-ltb c.args.code 10000 (omega arith), le-leb _ _ c.if-of_year-lt1.false, lt-leb _ _ c.if-of_year-gt12.true)

pub returns : goal.returns
unfolding month_of is_code
returns c = simp (lt-ltb c.args.code 10000 (omega arith), le-leb _ _ c.if-of_year-lt1.false, le-leb _ _ c.if-of_year-gt12.false)
