-- The sizes that document 01's ceilings give what a close has for every account.
use Rattle.std.specs.Prelude.{◌≤◌}
use Rattle.positions.specs.Bounds.{Margins, PricedAll}
use Rattle.holdings.specs.Bounds.{GoodReference}
use Rattle.closing.specs.declared.DayEnd.{DayEnd}

-- Document 01, Units and ceilings: "multiplier (hundredths) | 100 | 1,000".
pub record GoodDayEnd (d : DayEnd) : Type 0 where
  pub marks : PricedAll d.marks
  pub margins : Margins d.margins
  pub reference : GoodReference d.reference
  pub multiplier : d.multiplier ≤ 1000
