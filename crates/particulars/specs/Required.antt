-- The parts of the requirement of an account's row.
use Rattle.std.specs.Prelude.{ℕ, ◌≤◌}
use Rattle.whole.specs.Amounts.{Amount}
use Rattle.holdings.specs.Bounds.{Granted, GoodReference}
use Rattle.holdings.specs.Holdings.{basis}
use Rattle.closing.specs.DayEnd.{over_limit}
use Rattle.accounts.specs.declared.Account.{Account}
use Rattle.particulars.specs.declared.Parts.{Parts}

-- at a reference rate and a multiplier
abbrev pub parts_at : Account → ℕ → ℕ → Parts
parts_at a reference multiplier = record {
  clearing = a.holdings.limits.clearing;
  reference = reference;
  multiplier = multiplier;
  basis = basis a.holdings.limits reference;
  total = a.holdings.dayend;
  over = over_limit a.holdings.dayend (basis a.holdings.limits reference) multiplier;
  special = a.holdings.special;
  margin = a.funds.margin;
  cash = a.funds.cash;
  flag = a.funds.flag;
}

-- document 01's ceilings on what they are found from
pub record PartsFit (a : Account) (reference multiplier : ℕ) : Type 0 where
  pub limits : Granted a.holdings.limits
  pub rate : GoodReference reference
  pub total : Amount 12000000000000 a.holdings.dayend
  pub most : multiplier ≤ 1000
