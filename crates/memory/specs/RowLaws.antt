-- How wide each row is, and that it reads back as it was written.
use Rattle.std.specs.Prelude.{◌≡◌, refl, List, Bool, true, false, ℕ, eqb, length, get_or}
use Rattle.lists.specs.Block.{block}
use Rattle.lists.specs.Tabulate.{tab, tab-is}
use Rattle.tallies.specs.Tally.{none}
use Rattle.positions.specs.Deals.{flat}
use Rattle.accounts.specs.declared.Account.{Account}
use Rattle.memory.specs.declared.header_row.Header.{Header}
use Rattle.memory.specs.declared.contract_rows.Contract.{Contract}
use Rattle.memory.specs.declared.outcome_rows.Outcome.{Outcome}
use Rattle.memory.specs.Rows.{header_cells, header_of, contract_counts, contract_money, contract_of, no_mean, outcome_counts, outcome_money, outcome_of}
use Rattle.memory.specs.Rows.{flag_cell, account_counts, account_money, account_of}
use Rattle.memory.specs.Memory.{WholeTally}

-- ---- widths
pub header-wide : (h : Header) → length (header_cells h) ≡ 10
header-wide h = refl

pub contract-counts-wide : (x : Contract) → length (contract_counts x) ≡ 12
contract-counts-wide x = refl

pub contract-money-wide : (x : Contract) → length (contract_money x) ≡ 9
contract-money-wide x = refl

pub outcome-counts-wide : (x : Outcome) → length (outcome_counts x) ≡ 3
outcome-counts-wide x = refl

pub outcome-money-wide : (x : Outcome) → length (outcome_money x) ≡ 1
outcome-money-wide x = refl

pub account-counts-wide : (a : Account) → length (account_counts a) ≡ 4
account-counts-wide a = refl

pub account-money-wide : (a : Account) → length (account_money a) ≡ 29
unfolding block
account-money-wide a = refl

-- ---- rows read back

-- a list of n has just its n elements
elements : {X : Type 0} (d : X) (n : ℕ) (l : List X) → length l ≡ n → tab (λ k. get_or l k d) n ≡ l
elements d n l h = tab-is d (λ k. get_or l k d) n l h (λ k p. refl)

pub header-back : (h : Header) → header_of (header_cells h) ≡ h
header-back h = refl

pub contract-back : (x : Contract) → WholeTally x.tally → contract_of (contract_counts x) (contract_money x) ≡ x
unfolding tab
contract-back x w = rw (elements none 5 x.tally.latest w.five, elements no_mean 2 x.tally.quotes w.sides)

pub outcome-back : (x : Outcome) → outcome_of (outcome_counts x) (outcome_money x) ≡ x
outcome-back x = refl

flag-back : (flag : Bool) → eqb (flag_cell flag) 1 ≡ flag
flag-back true = refl
flag-back false = refl

pub account-back : (a : Account) → length a.holdings.positions ≡ 6 → account_of (account_counts a) (account_money a) ≡ a
unfolding block tab
account-back a h = rw (elements flat 6 a.holdings.positions h, flag-back a.funds.flag)
