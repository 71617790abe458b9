-- A month before the calendar, past it, or in it.
use mathlib.Core.Path.{sym}
use native.Mathlib.Omega.{arith}
use Rattle.months.specs.MonthLaws.{settle-before, settle-in, settle-past}
use Rattle.months.proofs.Month.settlement_day.Goals as goal

pub returns-then-self-lt-FIRST : goal.returns-then-self-lt-FIRST
returns-then-self-lt-FIRST c = sym (settle-before _ _ c.if-self-lt-FIRST.true)

pub returns-then-self-gt-LAST : goal.returns-then-self-gt-LAST
returns-then-self-gt-LAST c = sym (settle-past _ c.args.self.number (omega arith))

pub returns : goal.returns
returns c = rw (settle-in _ _ c.if-self-lt-FIRST.false, ← c.third_wednesday.ensures) c.next_working.ensures
