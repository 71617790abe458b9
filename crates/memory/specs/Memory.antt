-- The memory as rows: what it holds when all its rows are given, and the rows that a memory has.
use Rattle.std.specs.Prelude.{List, ◌∷◌, ◌++◌, ◌≡◌, ℕ, ℤ, get_or, length}
use Rattle.lists.specs.Block.{block}
use Rattle.lists.specs.Tabulate.{tab}
use Rattle.tallies.specs.declared.Tally.{Tally}
use Rattle.accounts.specs.declared.Account.{Account}
use Rattle.memory.specs.declared.header_row.Header.{Header}
use Rattle.memory.specs.declared.contract_rows.Contract.{Contract}
use Rattle.memory.specs.declared.outcome_rows.Outcome.{Outcome}
use Rattle.memory.specs.Rows.{header_cells, contract_counts, contract_money, blank_contract, outcome_counts, outcome_money, account_counts, account_money, blank_account}
use Rattle.memory.specs.Layout.{header_at, exceptions_at, contract_at, outcome_at, account_at, house_at}

-- all rows, those not in use too
pub record Rows : Type 0 where
  pub header : Header
  pub exceptions : List ℕ
  pub contracts : List Contract
  pub outcomes : List Outcome
  pub accounts : List Account
  pub house : ℤ

abbrev pub counts_of : Rows → List ℕ
counts_of r =
    header_cells r.header ++
    (r.exceptions ++ (block contract_counts r.contracts ++ (block outcome_counts r.outcomes ++ block account_counts r.accounts)))

abbrev pub money_of : Rows → List ℤ
money_of r = r.house ∷ (block contract_money r.contracts ++ (block outcome_money r.outcomes ++ block account_money r.accounts))

-- the memory holds just these rows
pub record Holds (c : List ℕ) (m : List ℤ) (r : Rows) : Type 0 where
  pub counts : c ≡ counts_of r
  pub money : m ≡ money_of r

abbrev pub rows_in : List ℕ → List ℤ → Rows
rows_in c m = record {
  header = header_at c;
  exceptions = exceptions_at c;
  contracts = tab (contract_at c m) 6;
  outcomes = tab (outcome_at c m) 6;
  accounts = tab (account_at c m) 64;
  house = house_at m;
}

-- ---- as many rows as there is room for, and arrays as long as the code's
pub record WholeTally (t : Tally) : Type 0 where
  pub five : length t.latest ≡ 5
  pub sides : length t.quotes ≡ 2

pub record Shaped (r : Rows) : Type 0 where
  pub exceptions : length r.exceptions ≡ 400
  pub contracts : length r.contracts ≡ 6
  pub outcomes : length r.outcomes ≡ 6
  pub accounts : length r.accounts ≡ 64
  pub tallies : (k : ℕ) → WholeTally (get_or r.contracts k blank_contract).tally
  pub positions : (i : ℕ) → length (get_or r.accounts i blank_account).holdings.positions ≡ 6

-- ---- rows with one of them changed
abbrev pub with_header_row : Rows → Header → Rows
with_header_row r h = record {
  header = h;
  exceptions = r.exceptions;
  contracts = r.contracts;
  outcomes = r.outcomes;
  accounts = r.accounts;
  house = r.house;
}

abbrev pub with_contracts : Rows → List Contract → Rows
with_contracts r xs = record {
  header = r.header;
  exceptions = r.exceptions;
  contracts = xs;
  outcomes = r.outcomes;
  accounts = r.accounts;
  house = r.house;
}

abbrev pub with_outcomes : Rows → List Outcome → Rows
with_outcomes r xs = record {
  header = r.header;
  exceptions = r.exceptions;
  contracts = r.contracts;
  outcomes = xs;
  accounts = r.accounts;
  house = r.house;
}

abbrev pub with_accounts : Rows → List Account → Rows
with_accounts r xs = record {
  header = r.header;
  exceptions = r.exceptions;
  contracts = r.contracts;
  outcomes = r.outcomes;
  accounts = xs;
  house = r.house;
}

abbrev pub with_house_row : Rows → ℤ → Rows
with_house_row r x = record {
  header = r.header;
  exceptions = r.exceptions;
  contracts = r.contracts;
  outcomes = r.outcomes;
  accounts = r.accounts;
  house = x;
}

abbrev pub with_exceptions : Rows → List ℕ → Rows
with_exceptions r xs = record {
  header = r.header;
  exceptions = xs;
  contracts = r.contracts;
  outcomes = r.outcomes;
  accounts = r.accounts;
  house = r.house;
}
