-- Where the rows stand in the two arrays.
use Rattle.std.specs.Prelude.{List, ℕ, ◌+◌, ◌*◌, ℤ, pos, get_or, set, length, ◌≡◌}
use Rattle.lists.specs.Parts.{part, with_part}
use Rattle.accounts.specs.declared.Account.{Account}
use Rattle.memory.specs.declared.header_row.Header.{Header}
use Rattle.memory.specs.declared.contract_rows.Contract.{Contract}
use Rattle.memory.specs.declared.outcome_rows.Outcome.{Outcome}
use Rattle.memory.specs.Rows.{header_cells, header_of, contract_counts, contract_money, contract_of, outcome_counts, outcome_money, outcome_of, account_counts, account_money, account_of}

-- ---- counts: the header, the exceptions, six contracts, six outcomes, 64 accounts; money: the house, and the same rows
abbrev pub counts_long : ℕ
counts_long = 756

abbrev pub money_long : ℕ
money_long = 1917

pub record Long (c : List ℕ) (m : List ℤ) : Type 0 where
  pub counts : length c ≡ counts_long
  pub money : length m ≡ money_long

abbrev pub contract_counts_at : ℕ → ℕ
contract_counts_at k = 410 + k * 12

abbrev pub contract_money_at : ℕ → ℕ
contract_money_at k = 1 + k * 9

abbrev pub outcome_counts_at : ℕ → ℕ
outcome_counts_at k = 482 + k * 3

abbrev pub outcome_money_at : ℕ → ℕ
outcome_money_at k = 55 + k * 1

abbrev pub account_counts_at : ℕ → ℕ
account_counts_at i = 500 + i * 4

abbrev pub account_money_at : ℕ → ℕ
account_money_at i = 61 + i * 29

-- ---- a row read, and a row put in its place
abbrev pub header_at : List ℕ → Header
header_at c = header_of c

abbrev pub with_header : List ℕ → Header → List ℕ
with_header c h = with_part 0 10 c (header_cells h)

abbrev pub exceptions_at : List ℕ → List ℕ
exceptions_at c = part 10 400 c

abbrev pub contract_at : List ℕ → List ℤ → ℕ → Contract
contract_at c m k = contract_of (part (contract_counts_at k) 12 c) (part (contract_money_at k) 9 m)

abbrev pub with_contract_counts : List ℕ → ℕ → Contract → List ℕ
with_contract_counts c k x = with_part (contract_counts_at k) 12 c (contract_counts x)

abbrev pub with_contract_money : List ℤ → ℕ → Contract → List ℤ
with_contract_money m k x = with_part (contract_money_at k) 9 m (contract_money x)

abbrev pub outcome_at : List ℕ → List ℤ → ℕ → Outcome
outcome_at c m k = outcome_of (part (outcome_counts_at k) 3 c) (part (outcome_money_at k) 1 m)

abbrev pub with_outcome_counts : List ℕ → ℕ → Outcome → List ℕ
with_outcome_counts c k x = with_part (outcome_counts_at k) 3 c (outcome_counts x)

abbrev pub with_outcome_money : List ℤ → ℕ → Outcome → List ℤ
with_outcome_money m k x = with_part (outcome_money_at k) 1 m (outcome_money x)

abbrev pub account_at : List ℕ → List ℤ → ℕ → Account
account_at c m i = account_of (part (account_counts_at i) 4 c) (part (account_money_at i) 29 m)

abbrev pub with_account_counts : List ℕ → ℕ → Account → List ℕ
with_account_counts c i a = with_part (account_counts_at i) 4 c (account_counts a)

abbrev pub with_account_money : List ℤ → ℕ → Account → List ℤ
with_account_money m i a = with_part (account_money_at i) 29 m (account_money a)

abbrev pub house_at : List ℤ → ℤ
house_at m = get_or m 0 (pos 0)

abbrev pub with_house : List ℤ → ℤ → List ℤ
with_house m x = set m 0 x

-- ---- what a search looks at
abbrev pub code_at : List ℕ → ℕ → ℕ
code_at c k = get_or c (contract_counts_at k) 0

abbrev pub settled_code_at : List ℕ → ℕ → ℕ
settled_code_at c k = get_or c (outcome_counts_at k) 0

abbrev pub number_at : List ℕ → ℕ → ℕ
number_at c i = get_or c (account_counts_at i) 0

abbrev pub margin_at : List ℕ → ℕ → ℕ
margin_at c k = get_or c (contract_counts_at k + 1) 0
