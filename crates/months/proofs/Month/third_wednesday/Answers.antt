-- A first day is small enough for every sum.
use Rattle.months.specs.Months.{third_wednesday}
use Rattle.months.specs.MonthLaws.{first-most}
use Prim.Native.Nat.{◌-◌}
use native.Mathlib.Omega.{arith}
use Rattle.months.proofs.Month.third_wednesday.Goals as goal

pub overflow_add-result : goal.overflow_add-result
overflow_add-result c = omega (arith, first-most (c.args.self.number - 240))

pub overflow_mul-result : goal.overflow_mul-result
overflow_mul-result c = omega (arith, first-most (c.args.self.number - 240))

pub overflow_add-result-2 : goal.overflow_add-result-2
overflow_add-result-2 c = omega (arith, first-most (c.args.self.number - 240))

pub returns : goal.returns
unfolding third_wednesday
returns c = rw c.first_day.ensures
