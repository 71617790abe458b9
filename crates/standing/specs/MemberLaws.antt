-- The rows of a book by place, the searches among them, and the rows after a change of one account.
use Rattle.std.specs.Prelude.{◌≡◌, refl, true, false, ℕ, ◌+◌, ◌<◌, ℤ, length, get_or, set, Some, None}
use Rattle.std.proofs.Common.{sym, ◌∙◌, arith, eq-eqb, length-append}
use Rattle.std.proofs.Math.Path.{ap}
use mathlib.Core.List.{List, [], ◌∷◌}
use Rattle.std.proofs.lemmas.List.{length-map}
use Rattle.lists.specs.HasLaws.{when_true, when_false, eqb-flip, has-apart}
use Rattle.lists.specs.Keyed.{found_at, found_none}
use Rattle.lists.specs.KeyedLaws.{table_at, table-alike, table-set, table_more}
use Rattle.lists.specs.Padded.{padded}
use Rattle.lists.specs.PaddedLaws.{padded-full}
use Rattle.lists.specs.Seek.{seek, seek-same}
use Rattle.positions.specs.Deals.{flat}
use Rattle.positions.specs.declared.Position.{Position}
use Rattle.holdings.specs.Holdings.{new_holdings}
use Rattle.holdings.specs.declared.Limits.{Limits}
use Rattle.funds.specs.Funds.{new_funds}
use Rattle.funds.specs.declared.Funds.{Funds}
use Rattle.accounts.specs.Accounts.{new_account}
use Rattle.accounts.specs.declared.Account.{Account}
use Rattle.memory.specs.declared.header_row.Header.{Header}
use Rattle.memory.specs.declared.contract_rows.Contract.{Contract}
use Rattle.memory.specs.declared.outcome_rows.Outcome.{Outcome}
use Rattle.memory.specs.Rows.{blank_contract, blank_outcome, blank_account}
use Rattle.memory.specs.Layout.{header_at, account_at, number_at, code_at, settled_code_at}
use Rattle.memory.specs.Memory.{Holds, with_header_row, with_accounts}
use Rattle.memory.specs.MemoryLaws.{header_is, account-is, number_is, code_is, settled-code-is}
use Rattle.model.specs.Book.{Book, Held, is_member, holding, besides, positions_of, account_of, replaced}
use Rattle.model.specs.Effects.{with_held, enrolled, paid}
use Rattle.model.specs.Refusals.{is_open}
use Rattle.model.specs.Kept.{Kept}
use Rattle.model.proofs.KeptLaws.{kept-few, kept-six}
use Rattle.standing.specs.Standing.{header_row, contract_row, outcome_row, account_row, rows_of}
use Rattle.standing.specs.StandingLaws.{rows-shaped}

-- an account's row with other money, or with something else held besides its positions
abbrev pub row_with : Book → ℕ → Held → Funds → Account
row_with b n h f = record { number = n; holdings = holding h (padded 6 flat (positions_of b n)); funds = f }

-- a header with one member more
abbrev pub one_more : Header → Header
one_more h = record {
  point = h.point;
  day = h.day;
  clock = h.clock;
  trades = h.trades;
  reference = h.reference;
  multiplier = h.multiplier;
  exceptions = h.exceptions;
  listed = h.listed;
  settled = h.settled;
  members = h.members + 1;
}

module _ {b : Book} (g : Kept b) where
  -- ---- a row in use
  pub member-row : (i : ℕ) → i < length b.accounts.members
      → get_or (rows_of b).accounts i blank_account ≡ account_row b (get_or b.accounts.members i 0)
  member-row = table_at 64 blank_account (account_row b) b.accounts.members

  pub listed-row : (k : ℕ) → k < length b.contracts.codes
      → get_or (rows_of b).contracts k blank_contract ≡ contract_row b (get_or b.contracts.codes k 0)
  listed-row = table_at 6 blank_contract (contract_row b) b.contracts.codes

  pub settled-row : (k : ℕ) → k < length b.results.codes
      → get_or (rows_of b).outcomes k blank_outcome ≡ outcome_row b (get_or b.results.codes k 0)
  settled-row = table_at 6 blank_outcome (outcome_row b) b.results.codes

  -- while a day is open an account's six positions are those in the listed codes
  pub open_row : is_open b.today.point ≡ true → (n : ℕ) → account_row b n ≡ account_of b n
  open_row o n =
      ap (λ (ps : List Position). record { number = n; holdings = holding (b.accounts.held n) ps; funds = b.accounts.funds n })
      (padded-full 6 flat (positions_of b n) (length-map b.contracts.codes (b.accounts.position n) ∙ kept-six g o))

  module _ {c : List ℕ} {m : List ℤ} (h : Holds c m (rows_of b)) where
    header : header_at c ≡ header_row b
    header = header_is (rows_of b) (rows-shaped g) h

    -- ---- a search among the rows is one among the keys
    pub member-search : (n : ℕ)
        → seek (number_at c) n (header_at c).members 0 ≡ seek (λ i. get_or b.accounts.members i 0) n (length b.accounts.members) 0
    member-search n =
        ap (λ (x : Header). seek (number_at c) n x.members 0) header
        ∙ seek-same (number_at c) (λ i. get_or b.accounts.members i 0) n (length b.accounts.members) 0 (λ i q.
        number_is (rows_of b) (rows-shaped g) h i (omega (arith, g.sized.members))
        ∙ ap (λ (a : Account). a.number) (member-row i (omega arith)))

    pub code-search : (k : ℕ)
        → seek (code_at c) k (header_at c).listed 0 ≡ seek (λ i. get_or b.contracts.codes i 0) k (length b.contracts.codes) 0
    code-search k =
        ap (λ (x : Header). seek (code_at c) k x.listed 0) header
        ∙ seek-same (code_at c) (λ i. get_or b.contracts.codes i 0) k (length b.contracts.codes) 0 (λ i q.
        code_is (rows_of b) (rows-shaped g) h i (omega (arith, kept-few g))
        ∙ ap (λ (x : Contract). x.code) (listed-row i (omega arith)))

    pub outcome-search : (k : ℕ)
        → seek (settled_code_at c) k (header_at c).settled 0 ≡ seek (λ i. get_or b.results.codes i 0) k (length b.results.codes) 0
    outcome-search k =
        ap (λ (x : Header). seek (settled_code_at c) k x.settled 0) header
        ∙ seek-same (settled_code_at c) (λ i. get_or b.results.codes i 0) k (length b.results.codes) 0 (λ i q.
        settled-code-is (rows_of b) (rows-shaped g) h i (omega (arith, g.keys.few))
        ∙ ap (λ (x : Outcome). x.code) (settled-row i (omega arith)))

    -- ---- a member found, or not
    pub member-at : (n i : ℕ) → seek (number_at c) n (header_at c).members 0 ≡ Some i
        → (i < length b.accounts.members) × ((get_or b.accounts.members i 0 ≡ n) × (is_member b n ≡ true))
    member-at n i e = found_at b.accounts.members n i (sym (member-search n) ∙ e)

    pub member-none : (n : ℕ) → seek (number_at c) n (header_at c).members 0 ≡ None → is_member b n ≡ false
    member-none n e = found_none b.accounts.members n (sym (member-search n) ∙ e)

    pub member-account : (n i : ℕ) → i < length b.accounts.members → get_or b.accounts.members i 0 ≡ n
        → account_at c m i ≡ account_row b n
    member-account n i q is =
        account-is (rows_of b) (rows-shaped g) h i (omega (arith, g.sized.members)) ∙ member-row i q ∙ ap (account_row b) is

  -- ---- one account changed
  module _ (n i : ℕ) (q : i < length b.accounts.members) (is : get_or b.accounts.members i 0 ≡ n) where
    pub funds-row : (f : Funds)
        → with_accounts (rows_of b) (set (rows_of b).accounts i (row_with b n (b.accounts.held n) f)) ≡ rows_of (paid b n f)
    funds-row f =
        ap (with_accounts (rows_of b))
        (table-set 64 blank_account (account_row b) b.accounts.members (account_row (paid b n f)) n i _ g.framed.once q is
        (ap (row_with b n (b.accounts.held n)) (when_true f (b.accounts.funds n) (eq-eqb n n refl)))
        (λ k t. ap (row_with b k (b.accounts.held k)) (when_false f (b.accounts.funds k) t)))

    pub held-row : (h : Held)
        → with_accounts (rows_of b) (set (rows_of b).accounts i (row_with b n h (b.accounts.funds n)))
        ≡ rows_of (with_held b (replaced b.accounts.held n h))
    held-row h =
        let b' = with_held b (replaced b.accounts.held n h) in
        ap (with_accounts (rows_of b))
        (table-set 64 blank_account (account_row b) b.accounts.members (account_row b') n i _ g.framed.once q is
        (ap (λ x. row_with b n x (b.accounts.funds n)) (when_true h (b.accounts.held n) (eq-eqb n n refl)))
        (λ k t. ap (λ x. row_with b k x (b.accounts.funds k)) (when_false h (b.accounts.held k) t)))

  -- ---- one account more. It stood at zero before
  module _ (n : ℕ) (fresh : is_member b n ≡ false) (l : Limits) where
    abbrev new_held : Held
    new_held = besides (new_holdings l b.settings.reference)

    enrolled-row : account_row (enrolled b n l) n ≡ new_account n l b.settings.reference
    unfolding new_holdings
    enrolled-row =
        ap (λ x. row_with b n x (b.accounts.funds n)) (when_true new_held (b.accounts.held n) (eq-eqb n n refl))
        ∙ ap (row_with b n new_held) (g.framed.strangers n fresh).1
        ∙ ap (λ (ps : List Position). record { number = n; holdings = holding new_held ps; funds = new_funds })
        (table-alike 6 flat (b.accounts.position n) b.contracts.codes (kept-few g) (λ k. g.framed.strange-positions n k fresh))

    pub enrolled-rows : length b.accounts.members < 64
        → with_accounts (with_header_row (rows_of b) (one_more (header_row b)))
        (set (rows_of b).accounts (length b.accounts.members) (new_account n l b.settings.reference))
        ≡ rows_of (enrolled b n l)
    enrolled-rows room =
        rw (← enrolled-row, length-append b.accounts.members (n ∷ []))
        (ap (with_accounts (with_header_row (rows_of b) (one_more (header_row b))))
        (table_more 64 blank_account (account_row b) b.accounts.members (account_row (enrolled b n l)) n room
        (λ k m. ap (λ x. row_with b k x (b.accounts.funds k))
        (when_false new_held (b.accounts.held k) (eqb-flip k n ∙ has-apart n k b.accounts.members fresh m)))))
