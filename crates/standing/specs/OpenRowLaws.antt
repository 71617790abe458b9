-- What an open makes of the rows of a book's memory are the rows of the book opened.
use Rattle.std.specs.Prelude.{◌≡◌, refl, true, false, cond, List, [], ◌∷◌, map, ℕ, zero, suc, ◌≤◌, ◌<◌, ltb, ℤ, pos, length, get_or, Option, Some, None}
use Rattle.std.proofs.Common.{sym, ap, ◌∙◌, arith, lt-ltb, ltb-true, eq-eqb}
use Rattle.std.proofs.Math.Path.{fun_ext}
use Rattle.std.proofs.lemmas.List.{length-map}
use Rattle.lists.specs.Has.{has, place_of, Distinct}
use Rattle.lists.specs.HasLaws.{by_test, clash, when_true, when_false, eqb-flip, has-apart}
use Rattle.lists.specs.Keyed.{has-at, found_at, found_none}
use Rattle.lists.specs.KeyedLaws.{table_at}
use Rattle.lists.specs.Padded.{padded}
use Rattle.lists.specs.PaddedLaws.{padded-length, padded-past}
use Rattle.lists.specs.Rows.{first_rows}
use Rattle.lists.specs.Seek.{seek, seek-same}
use Rattle.lists.specs.Tabulate.{tab-at, tab-is, tab-same}
use Rattle.calendar.specs.Listing.{listing}
use Rattle.calendar.specs.CodeLaws.{codes-distinct, codes-length}
use Rattle.positions.specs.Deals.{flat}
use Rattle.positions.specs.declared.Position.{Position}
use Rattle.accounts.specs.declared.Account.{Account}
use Rattle.memory.specs.declared.contract_rows.Contract.{Contract}
use Rattle.memory.specs.Rows.{blank_contract, blank_account}
use Rattle.model.specs.Book.{Book, Terms, no_terms, is_listed, working, holding, positions_of}
use Rattle.model.specs.Calls.{Opening}
use Rattle.model.specs.Effects.{terms_after, codes_on, opened}
use Rattle.model.specs.Kept.{Kept}
use Rattle.model.proofs.KeptLaws.{kept-few}
use Rattle.standing.specs.Standing.{contract_row, account_row, rows_of}
use Rattle.standing.specs.MemberLaws.{listed-row}
use Rattle.standing.specs.WalkLaws.{walk_end}
use Rattle.standing.specs.OpenRows.{place_found, places_in, contract_with, relisted_row, rows_by, relisted, opened_rows}

-- a row is read only where there is one
pub rows-by : (f g : ℕ → Contract) (places codes : List ℕ) (rates : List ℤ) (margins : List ℕ) → ((k : ℕ) → k < 6 → f k ≡ g k)
    → rows_by f places codes rates margins ≡ rows_by g places codes rates margins
rows-by f g places codes rates margins h = tab-same _ _ 6 λ j q.
    let k = get_or places j 0 in
    by_test (ltb k 6)
    (λ e. ap (λ x. relisted_row x k (get_or codes j 0) (get_or rates j (pos 0)) (get_or margins j 0)) (h k (ltb-true k 6 e)))
    (λ e. when_false _ _ e ∙ sym (when_false _ _ e))

-- the place of an element of a list that has no number twice
place_at : (ks : List ℕ) (i : ℕ) → Distinct ks → i < length ks → place_of (get_or ks i 0) ks ≡ i
unfolding place_of
place_at [] i d h = absurd (omega arith)
place_at (k ∷ ks) zero d h = rw (eq-eqb k k refl)
place_at (k ∷ ks) (suc i) d h =
    rw (eqb-flip (get_or ks i 0) k ∙ has-apart k (get_or ks i 0) ks d.0 (has-at ks i (omega arith)))
    (ap suc (place_at ks i d.1 (omega arith)))

-- ---- a code's row among those that were listed
abbrev sought : List ℕ → ℕ → Option ℕ
sought old c = seek (λ i. get_or old i 0) c (length old) 0

module _ (old : List ℕ) (c : ℕ) (few : length old ≤ 6) where
  -- what stands beside the code is read there
  beside : {X : Type 0} (f : ℕ → X) (d : X) → (has c old ≡ false → f c ≡ d)
      → get_or (padded 6 d (map f old)) (place_found (sought old c)) d ≡ f c
  beside f d h = go (sought old c) refl
    where
      go : (s : Option ℕ) → sought old c ≡ s → get_or (padded 6 d (map f old)) (place_found s) d ≡ f c
      go (Some i) e = let q = found_at old c i e in table_at 6 d f old i q.0 ∙ ap f q.1.0
      go None e = padded-past 6 d (map f old) 6 (rw (length-map old f) few) ∙ sym (h (found_none old c e))

  placed : ltb (place_found (sought old c)) 6 ≡ has c old
  placed = go (sought old c) refl
    where
      go : (s : Option ℕ) → sought old c ≡ s → ltb (place_found s) 6 ≡ has c old
      go (Some i) e = let q = found_at old c i e in lt-ltb i 6 (omega (arith, q.0)) ∙ sym q.1.1
      go None e = sym (found_none old c e)

module _ {b : Book} (g : Kept b) (o : Opening) (known : (listing (working b) o.day).known ≡ true) where
  abbrev old : List ℕ
  old = b.contracts.codes

  abbrev codes : List ℕ
  codes = codes_on b o.day

  six : length codes ≡ 6
  six = codes-length (working b) o.day known

  six-of : {X : Type 0} (f : ℕ → X) → length (map f codes) ≤ 6
  six-of f = omega (arith, length-map codes f, six)

  abbrev places : List ℕ
  places = places_in (rows_of b) codes

  place : (j : ℕ) → j < 6 → get_or places j 0 ≡ place_found (sought old (get_or codes j 0))
  place j q =
      tab-at 0 _ 6 j q
      ∙ ap place_found (seek-same _ (λ i. get_or old i 0) (get_or codes j 0) (length old) 0
      (λ k p. ap (λ (x : Contract). x.code) (listed-row g k (omega arith))))

  -- ---- contracts
  terms-at : (j : ℕ) → j < 6 → let c = get_or codes j 0 in
      terms_after b codes o c
      ≡ cond (is_listed b c) (b.contracts.terms c) (record { previous = get_or o.rates j (pos 0); margin = get_or o.margins j 0 })
  terms-at j q =
      let p : j < length codes = rw six q in
      let terms : ℕ → Terms = λ k. record { previous = get_or o.rates k (pos 0); margin = get_or o.margins k 0 } in
      let c = get_or codes j 0 in
      when_true _ no_terms (has-at codes j p)
      ∙ ap (λ k. cond (is_listed b c) (b.contracts.terms c) (terms k)) (place_at codes j (codes-distinct (working b) o.day known) p)

  row_at : (j : ℕ) → j < 6 → let c = get_or codes j 0 in let k = place_found (sought old c) in
      relisted_row (get_or (rows_of b).contracts k blank_contract) k c (get_or o.rates j (pos 0)) (get_or o.margins j 0)
      ≡ contract_row (opened b o) c
  row_at j q =
      let c = get_or codes j 0 in
      let x = get_or (rows_of b).contracts (place_found (sought old c)) blank_contract in
      let kept = contract_with c x.previous x.margin in
      let new = contract_with c (get_or o.rates j (pos 0)) (get_or o.margins j 0) in
      let listed : Terms → Contract = λ t. contract_with c t.previous t.margin in
      ap (λ t. cond t kept new) (placed old c (kept-few g))
      ∙ by_test (is_listed b c)
      (λ e. when_true kept new e
      ∙ ap (λ (x : Contract). contract_with c x.previous x.margin) (beside old c (kept-few g) (contract_row b) blank_contract (clash e))
      ∙ sym (ap listed (terms-at j q ∙ when_true _ _ e)))
      (λ e. when_false kept new e ∙ sym (ap listed (terms-at j q ∙ when_false _ _ e)))

  contracts-are : rows_by (λ k. get_or (rows_of b).contracts k blank_contract) places codes o.rates o.margins ≡ (rows_of (opened b o)).contracts
  contracts-are =
      tab-is blank_contract _ 6 (rows_of (opened b o)).contracts
      (padded-length 6 blank_contract (map (contract_row (opened b o)) codes) (six-of (contract_row (opened b o))))
      λ j q.
      ap (λ k. relisted_row (get_or (rows_of b).contracts k blank_contract) k (get_or codes j 0) (get_or o.rates j (pos 0)) (get_or o.margins j 0))
      (place j q)
      ∙ row_at j q
      ∙ sym (table_at 6 blank_contract (contract_row (opened b o)) codes j (rw six q))

  -- ---- accounts
  account-is : (n : ℕ) → relisted places (account_row b n) ≡ account_row (opened b o) n
  account-is n =
      let position = b.accounts.position n in
      let after = (opened b o).accounts.position n in
      ap (λ (ps : List Position). record { number = n; holdings = holding (b.accounts.held n) ps; funds = b.accounts.funds n })
      (tab-is flat _ 6 (padded 6 flat (positions_of (opened b o) n)) (padded-length 6 flat (map after codes) (six-of after))
      λ j q.
      let p : j < length codes = rw six q in
      let c = get_or codes j 0 in
      ap (λ k. get_or (padded 6 flat (positions_of b n)) k flat) (place j q)
      ∙ beside old c (kept-few g) position flat (g.framed.unlisted n c)
      ∙ sym (table_at 6 flat after codes j p ∙ when_true (position c) flat (has-at codes j p)))

  accounts-are : first_rows (relisted places) (length b.accounts.members) (rows_of b).accounts ≡ (rows_of (opened b o)).accounts
  accounts-are =
      walk_end b (relisted places) ∙ ap (λ (row : ℕ → Account). padded 64 blank_account (map row b.accounts.members)) (fun_ext account-is)

  -- ---- all of it
  pub open-rows : opened_rows codes o (rows_of b) ≡ rows_of (opened b o)
  open-rows = rw (accounts-are, contracts-are, six)
