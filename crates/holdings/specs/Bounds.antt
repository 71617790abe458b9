-- The sizes that document 01's ceilings give what an account holds. `trades` is the number of trades of the day so far.
use Rattle.std.specs.Prelude.{ℕ, ◌≤◌}
use Rattle.whole.specs.Within.{Within}
use Rattle.whole.specs.Amounts.{Amount}
use Rattle.positions.specs.Bounds.{Kept, day_most}
use Rattle.holdings.specs.declared.Limits.{Limits}
use Rattle.holdings.specs.declared.Holdings.{Holdings}

-- Document 01, Units and ceilings: "clearing limit (lots) | 0 | 1,000,000", "tolerance, special margin | 0 | 10^14".
pub record Granted (l : Limits) : Type 0 where
  pub clearing : l.clearing ≤ 1000000
  pub tolerance : Amount 100000000000000 l.tolerance

-- "margin rate, reference rate (fen a lot) | 1 | 100,000,000"
pub record GoodReference (reference : ℕ) : Type 0 where
  pub most : reference ≤ 100000000

-- Six nets of 20,000 lots at 100,000,000 are 1.2 * 10^13. A clearing limit of 1,000,000 lots at 100,000,000 is 10^14.
pub record Sound (trades : ℕ) (h : Holdings) : Type 0 where
  pub limits : Granted h.limits
  pub coming : Granted h.coming
  pub core : Amount 100000000000000 h.core
  pub special : Amount 100000000000000 h.special
  pub dayend : Amount 12000000000000 h.dayend
  pub variation : Within (day_most 1000000000000) h.variation
  pub positions : Kept trades h.positions
