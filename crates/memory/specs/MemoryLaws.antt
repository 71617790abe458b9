-- A memory that holds rows has each of them in its place, and holds them with one changed when that one is put back.
use Rattle.std.specs.Prelude.{◌≡◌, refl, List, [], ◌∷◌, ◌++◌, ℕ, ◌+◌, ◌≤◌, ◌<◌, ℤ, get_or, set, take, length}
use Rattle.std.proofs.Common.{sym, ap, ◌∙◌, add-zero, arith, length-append, length-set, take_all}
use Rattle.lists.specs.Block.{block}
use Rattle.lists.specs.BlockLaws.{part-within, with_part-within, Laid, laid-alone, laid-before, laid-after, block-length}
use Rattle.lists.specs.Keep.{set_keeps}
use Rattle.lists.specs.Parts.{part, with_part, with_part-length, part_at}
use Rattle.lists.specs.Tabulate.{tab, tab-is}
use Rattle.accounts.specs.declared.Account.{Account}
use Rattle.memory.specs.declared.header_row.Header.{Header}
use Rattle.memory.specs.declared.contract_rows.Contract.{Contract}
use Rattle.memory.specs.declared.outcome_rows.Outcome.{Outcome}
use Rattle.memory.specs.Rows.{header_cells, contract_counts, contract_money, blank_contract, outcome_counts, outcome_money, blank_outcome}
use Rattle.memory.specs.Rows.{account_counts, account_money, blank_account}
use Rattle.memory.specs.Layout.{Long, contract_counts_at, outcome_counts_at, account_counts_at, header_at, with_header, exceptions_at, contract_at}
use Rattle.memory.specs.Layout.{with_contract_counts, with_contract_money, outcome_at, with_outcome_counts, with_outcome_money, account_at}
use Rattle.memory.specs.Layout.{with_account_counts, with_account_money, house_at, with_house, code_at, settled_code_at, number_at, margin_at}
use Rattle.memory.specs.Memory.{Rows, Shaped, WholeTally, Holds, counts_of, money_of, rows_in, with_header_row, with_exceptions, with_contracts}
use Rattle.memory.specs.Memory.{with_outcomes, with_accounts, with_house_row}
use Rattle.memory.specs.RowLaws.{header-wide, contract-counts-wide, contract-money-wide, contract-back, outcome-counts-wide, outcome-money-wide}
use Rattle.memory.specs.RowLaws.{outcome-back, account-counts-wide, account-money-wide, account-back}

-- ---- the tables, and where each begins
module _ (r : Rows) (s : Shaped r) where
  contract-counts-long : length (block contract_counts r.contracts) ≡ 72
  contract-counts-long = rw (block-length contract_counts 12 contract-counts-wide r.contracts, s.contracts)

  contract-money-long : length (block contract_money r.contracts) ≡ 54
  contract-money-long = rw (block-length contract_money 9 contract-money-wide r.contracts, s.contracts)

  outcome-counts-long : length (block outcome_counts r.outcomes) ≡ 18
  outcome-counts-long = rw (block-length outcome_counts 3 outcome-counts-wide r.outcomes, s.outcomes)

  outcome-money-long : length (block outcome_money r.outcomes) ≡ 6
  outcome-money-long = rw (block-length outcome_money 1 outcome-money-wide r.outcomes, s.outcomes)

  account-counts-long : length (block account_counts r.accounts) ≡ 256
  account-counts-long = rw (block-length account_counts 4 account-counts-wide r.accounts, s.accounts)

  account-money-long : length (block account_money r.accounts) ≡ 1856
  account-money-long = rw (block-length account_money 29 account-money-wide r.accounts, s.accounts)

  module _ {X : Type 0} {cells : X → List ℕ} {w n : ℕ} {around : List X → List ℕ} (t : Laid cells w around n) where
    after-exceptions : Laid cells w (λ xs. header_cells r.header ++ (r.exceptions ++ around xs)) (10 + (400 + n))
    after-exceptions = laid-after (laid-after t r.exceptions 400 s.exceptions) (header_cells r.header) 10 (header-wide r.header)

    after-contract-counts : Laid cells w (λ xs. block contract_counts r.contracts ++ around xs) (72 + n)
    after-contract-counts = laid-after t (block contract_counts r.contracts) 72 contract-counts-long

    after-outcome-counts : Laid cells w (λ xs. block outcome_counts r.outcomes ++ around xs) (18 + n)
    after-outcome-counts = laid-after t (block outcome_counts r.outcomes) 18 outcome-counts-long

  module _ {X : Type 0} {cells : X → List ℤ} {w n : ℕ} {around : List X → List ℤ} (t : Laid cells w around n) where
    after-house : Laid cells w (λ xs. r.house ∷ around xs) (1 + n)
    after-house = laid-after t (r.house ∷ []) 1 refl

    after-contract-money : Laid cells w (λ xs. block contract_money r.contracts ++ around xs) (54 + n)
    after-contract-money = laid-after t (block contract_money r.contracts) 54 contract-money-long

    after-outcome-money : Laid cells w (λ xs. block outcome_money r.outcomes ++ around xs) (6 + n)
    after-outcome-money = laid-after t (block outcome_money r.outcomes) 6 outcome-money-long

  contract-counts : Laid contract_counts 12 (λ xs. counts_of (with_contracts r xs)) 410
  contract-counts =
      after-exceptions (laid-before contract_counts 12 contract-counts-wide (block outcome_counts r.outcomes ++ block account_counts r.accounts))

  contract-money : Laid contract_money 9 (λ xs. money_of (with_contracts r xs)) 1
  contract-money =
      after-house (laid-before contract_money 9 contract-money-wide (block outcome_money r.outcomes ++ block account_money r.accounts))

  outcome-counts : Laid outcome_counts 3 (λ xs. counts_of (with_outcomes r xs)) 482
  outcome-counts = after-exceptions (after-contract-counts (laid-before outcome_counts 3 outcome-counts-wide (block account_counts r.accounts)))

  outcome-money : Laid outcome_money 1 (λ xs. money_of (with_outcomes r xs)) 55
  outcome-money = after-house (after-contract-money (laid-before outcome_money 1 outcome-money-wide (block account_money r.accounts)))

  account-counts : Laid account_counts 4 (λ xs. counts_of (with_accounts r xs)) 500
  account-counts = after-exceptions (after-contract-counts (after-outcome-counts (laid-alone account_counts 4 account-counts-wide)))

  account-money : Laid account_money 29 (λ xs. money_of (with_accounts r xs)) 61
  account-money = after-house (after-contract-money (after-outcome-money (laid-alone account_money 29 account-money-wide)))

module _ {c : List ℕ} {m : List ℤ} (r : Rows) (s : Shaped r) (h : Holds c m r) where
  -- ---- each row in its place
  pub header_is : header_at c ≡ r.header
  header_is = rw h.counts

  pub house-is : house_at m ≡ r.house
  house-is = rw h.money

  pub exceptions-part : (n : ℕ) → n ≤ 400 → part 10 n c ≡ take n r.exceptions
  exceptions-part n q = rw h.counts (part-within (header_cells r.header) r.exceptions _ 10 0 n refl (omega (arith, s.exceptions)))

  pub exceptions-are : exceptions_at c ≡ r.exceptions
  exceptions-are = exceptions-part 400 (omega arith) ∙ take_all 400 r.exceptions (omega (arith, s.exceptions))

  pub contract-is : (k : ℕ) → k < 6 → contract_at c m k ≡ get_or r.contracts k blank_contract
  contract-is k q =
      let p : k < length r.contracts = rw s.contracts q in
      rw (h.counts, h.money, (contract-counts r s).row r.contracts k blank_contract p, (contract-money r s).row r.contracts k blank_contract p)
      (contract-back (get_or r.contracts k blank_contract) (s.tallies k))

  pub outcome-is : (k : ℕ) → k < 6 → outcome_at c m k ≡ get_or r.outcomes k blank_outcome
  outcome-is k q =
      let p : k < length r.outcomes = rw s.outcomes q in
      rw (h.counts, h.money, (outcome-counts r s).row r.outcomes k blank_outcome p, (outcome-money r s).row r.outcomes k blank_outcome p)
      (outcome-back (get_or r.outcomes k blank_outcome))

  pub account-is : (i : ℕ) → i < 64 → account_at c m i ≡ get_or r.accounts i blank_account
  account-is i q =
      let p : i < length r.accounts = rw s.accounts q in
      rw (h.counts, h.money, (account-counts r s).row r.accounts i blank_account p, (account-money r s).row r.accounts i blank_account p)
      (account-back (get_or r.accounts i blank_account) (s.positions i))

  contracts-are : tab (contract_at c m) 6 ≡ r.contracts
  contracts-are = tab-is blank_contract (contract_at c m) 6 r.contracts s.contracts contract-is

  outcomes-are : tab (outcome_at c m) 6 ≡ r.outcomes
  outcomes-are = tab-is blank_outcome (outcome_at c m) 6 r.outcomes s.outcomes outcome-is

  accounts-are : tab (account_at c m) 64 ≡ r.accounts
  accounts-are = tab-is blank_account (account_at c m) 64 r.accounts s.accounts account-is

  pub rows_are : rows_in c m ≡ r
  rows_are = rw (header_is, exceptions-are, contracts-are, outcomes-are, accounts-are, house-is)

  -- ---- the two arrays' lengths
  pub memory-long : Long c m
  memory-long = record {
    counts =
        rw h.counts
        (simp length-append (omega (arith, s.exceptions, contract-counts-long r s, outcome-counts-long r s, account-counts-long r s)));
    money = rw h.money (simp length-append (omega (arith, contract-money-long r s, outcome-money-long r s, account-money-long r s)));
  }

  -- ---- one cell of a row, for the searches
  first_cell : (b w : ℕ) → 0 < w → get_or c b 0 ≡ get_or (part b w c) 0 0
  first_cell b w q = sym (part_at 0 b w c 0 q ∙ ap (λ t. get_or c t 0) (add-zero b))

  pub code_is : (k : ℕ) → k < 6 → code_at c k ≡ (get_or r.contracts k blank_contract).code
  code_is k q = first_cell (contract_counts_at k) 12 (omega arith) ∙ ap (λ (x : Contract). x.code) (contract-is k q)

  pub margin-is : (k : ℕ) → k < 6 → margin_at c k ≡ (get_or r.contracts k blank_contract).margin
  margin-is k q = sym (part_at 0 (contract_counts_at k) 12 c 1 (omega arith)) ∙ ap (λ (x : Contract). x.margin) (contract-is k q)

  pub settled-code-is : (k : ℕ) → k < 6 → settled_code_at c k ≡ (get_or r.outcomes k blank_outcome).code
  settled-code-is k q = first_cell (outcome_counts_at k) 3 (omega arith) ∙ ap (λ (x : Outcome). x.code) (outcome-is k q)

  pub number_is : (i : ℕ) → i < 64 → number_at c i ≡ (get_or r.accounts i blank_account).number
  number_is i q = first_cell (account_counts_at i) 4 (omega arith) ∙ ap (λ (a : Account). a.number) (account-is i q)

  -- ---- a row put back
  pub put-header : (g : Header) → Holds (with_header c g) m (with_header_row r g)
  put-header g = record { counts = rw h.counts; money = h.money }

  pub put-house : (x : ℤ) → Holds c (with_house m x) (with_house_row r x)
  put-house x = record { counts = h.counts; money = rw h.money }

  pub put-exceptions : (e : List ℕ) → length e ≤ 400 →
      Holds (with_part 10 (length e) c e) m (with_exceptions r (with_part 0 (length e) r.exceptions e))
  put-exceptions e q = record {
    counts = rw h.counts (with_part-within (header_cells r.header) r.exceptions _ 10 0 (length e) refl (omega (arith, s.exceptions)) e);
    money = h.money;
  }

  pub put-contract : (k : ℕ) → k < 6 → (x : Contract) →
      Holds (with_contract_counts c k x) (with_contract_money m k x) (with_contracts r (set r.contracts k x))
  put-contract k q x = record {
    counts = rw h.counts ((contract-counts r s).put r.contracts k x (rw s.contracts q));
    money = rw h.money ((contract-money r s).put r.contracts k x (rw s.contracts q));
  }

  pub put-outcome : (k : ℕ) → k < 6 → (x : Outcome) →
      Holds (with_outcome_counts c k x) (with_outcome_money m k x) (with_outcomes r (set r.outcomes k x))
  put-outcome k q x = record {
    counts = rw h.counts ((outcome-counts r s).put r.outcomes k x (rw s.outcomes q));
    money = rw h.money ((outcome-money r s).put r.outcomes k x (rw s.outcomes q));
  }

  pub put-account : (i : ℕ) → i < 64 → (a : Account) →
      Holds (with_account_counts c i a) (with_account_money m i a) (with_accounts r (set r.accounts i a))
  put-account i q a = record {
    counts = rw h.counts ((account-counts r s).put r.accounts i a (rw s.accounts q));
    money = rw h.money ((account-money r s).put r.accounts i a (rw s.accounts q));
  }

-- ---- what keeps the shape
module _ (r : Rows) (s : Shaped r) where
  pub header-shaped : (g : Header) → Shaped (with_header_row r g)
  header-shaped g = record {
    exceptions = s.exceptions;
    contracts = s.contracts;
    outcomes = s.outcomes;
    accounts = s.accounts;
    tallies = s.tallies;
    positions = s.positions;
  }

  pub house-shaped : (x : ℤ) → Shaped (with_house_row r x)
  house-shaped x = record {
    exceptions = s.exceptions;
    contracts = s.contracts;
    outcomes = s.outcomes;
    accounts = s.accounts;
    tallies = s.tallies;
    positions = s.positions;
  }

  pub exceptions-shaped : (e : List ℕ) → length e ≤ 400 → Shaped (with_exceptions r (with_part 0 (length e) r.exceptions e))
  exceptions-shaped e q = record {
    exceptions = with_part-length 0 0 (length e) r.exceptions e refl (omega (arith, s.exceptions)) ∙ s.exceptions;
    contracts = s.contracts;
    outcomes = s.outcomes;
    accounts = s.accounts;
    tallies = s.tallies;
    positions = s.positions;
  }

  pub contract-shaped : (k : ℕ) (x : Contract) → WholeTally x.tally → Shaped (with_contracts r (set r.contracts k x))
  contract-shaped k x w = record {
    exceptions = s.exceptions;
    contracts = length-set r.contracts k x ∙ s.contracts;
    outcomes = s.outcomes;
    accounts = s.accounts;
    tallies = λ j. set_keeps (λ (y : Contract). WholeTally y.tally) blank_contract r.contracts k j x w (s.tallies j);
    positions = s.positions;
  }

  pub outcome-shaped : (k : ℕ) (x : Outcome) → Shaped (with_outcomes r (set r.outcomes k x))
  outcome-shaped k x = record {
    exceptions = s.exceptions;
    contracts = s.contracts;
    outcomes = length-set r.outcomes k x ∙ s.outcomes;
    accounts = s.accounts;
    tallies = s.tallies;
    positions = s.positions;
  }

  pub account-shaped : (i : ℕ) (a : Account) → length a.holdings.positions ≡ 6 → Shaped (with_accounts r (set r.accounts i a))
  account-shaped i a w = record {
    exceptions = s.exceptions;
    contracts = s.contracts;
    outcomes = s.outcomes;
    accounts = length-set r.accounts i a ∙ s.accounts;
    tallies = s.tallies;
    positions = λ j. set_keeps (λ (b : Account). length b.holdings.positions ≡ 6) blank_account r.accounts i j a w (s.positions j);
  }
