-- The table's rule holds at each of its places.
use Prim.Native.Nat.{◌-◌}
use lib.Dec.{eqb→eq}
use lib.ListN.{get_or}
use Rattle.lists.specs.Table.{at_each}
use Rattle.months.specs.Months.{first_day}
use Rattle.months.proofs.FirstDays.{first_days, is_first, all_first}
use native.Mathlib.Omega.{arith}
use Rattle.months.proofs.Month.first_day.Goals as goal

pub returns : goal.returns
unfolding first_days is_first
returns c =
    let i = c.args.self.number - 240 in
    eqb→eq (get_or first_days i 0) (first_day i) (at_each is_first first_days all_first i (omega arith))
