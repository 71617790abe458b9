-- What the steps of a close ask of the rows that a memory holds.
use Rattle.std.specs.Prelude.{◌≡◌, true, List, ℕ, ◌≤◌, ◌<◌, ℤ, get_or}
use Rattle.days.specs.Days.{rising}
use Rattle.tallies.specs.Bounds as tallies
use Rattle.positions.specs.declared.Mark.{Mark}
use Rattle.closing.specs.Bounds.{GoodDayEnd}
use Rattle.closing.specs.declared.DayEnd.{DayEnd}
use Rattle.funds.specs.Bounds.{days_most}
use Rattle.accounts.specs.Bounds as accounts
use Rattle.memory.specs.Rows.{blank_contract, blank_account}
use Rattle.memory.specs.Layout.{contract_at, outcome_at}
use Rattle.memory.specs.Memory.{Rows}
use Rattle.standing.specs.CloseRows.{exceptions_in, priced, mark_from, day_end_in}

-- how the contract in row k is marked
abbrev pub mark_at : List ℕ → List ℤ → ℕ → Mark
mark_at c m k = mark_from (contract_at c m k) (outcome_at c m k)

-- ---- rows that a step can take
pub record Priceable (r : Rows) : Type 0 where
  pub few : r.header.exceptions ≤ 400
  pub rises : rising (exceptions_in r) ≡ true
  pub tallies : (k : ℕ) → tallies.Sound (get_or r.contracts k blank_contract).tally

pub record Bookable (d : DayEnd) (r : Rows) : Type 0 where
  pub members : r.header.members ≤ 64
  pub accounts : (i : ℕ) → i < r.header.members → accounts.Sound 10000 days_most (get_or r.accounts i blank_account)
  pub end : GoodDayEnd d

pub record Closable (final : ℤ) (r : Rows) : Type 0 where
  pub priceable : Priceable r
  pub bookable : Bookable (day_end_in (priced final r)) r
