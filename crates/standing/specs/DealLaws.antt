-- What a trade or a quote makes of the rows, and what each side of a trade says of it, in the code's terms.
use Rattle.std.specs.Prelude.{◌≡◌, refl, true, false, List, [], ◌∷◌, map, ℕ, ◌<◌, eqb, ℤ, pos, neg_ℤ, get_or}
use Rattle.std.proofs.Math.Path.{sym, ap, ap₂, fun_ext}
use Rattle.std.proofs.Common.{◌∙◌, eqb-true, eq-eqb}
use Rattle.std.proofs.Math.Bool.{cond}
use Rattle.std.proofs.Math.ListN.{length, set}
use Rattle.std.proofs.lemmas.List.{length-map}
use Rattle.lists.specs.HasLaws.{by_test, when_true, when_false, eqb-flip}
use Rattle.lists.specs.KeyedLaws.{table_at, table-set}
use Rattle.lists.specs.Padded.{padded}
use Rattle.lists.specs.PaddedLaws.{padded-full}
use Rattle.lists.specs.Rows.{get_d-map-below}
use Rattle.lists.specs.Tabulate.{tab, tab-is}
use Rattle.tallies.specs.Means.{weighted}
use Rattle.tallies.specs.Tally as tallies
use Rattle.tallies.specs.declared.Tally.{Tally}
use Rattle.positions.specs.Bounds.{Margins}
use Rattle.positions.specs.Deals.{flat, dealt, with_deal}
use Rattle.positions.specs.Beyond.{is_beyond}
use Rattle.holdings.specs.Bounds as holdings
use Rattle.holdings.proofs.BoundLaws.{sound-wider}
use Rattle.holdings.specs.Holdings.{with_trade}
use Rattle.holdings.specs.Limits.{by_totals, side_of}
use Rattle.holdings.specs.declared.Side.TheVariants.{Beyond}
use Rattle.accounts.specs.Accounts.{with_holdings}
use Rattle.accounts.specs.declared.Account.{Account}
use Rattle.memory.specs.declared.contract_rows.Contract.{Contract}
use Rattle.memory.specs.Rows.{blank_contract, blank_account}
use Rattle.memory.specs.Layout.{margin_at}
use Rattle.memory.specs.Memory.{Holds, with_header_row, with_contracts, with_accounts}
use Rattle.memory.specs.MemoryLaws.{margin-is}
use Rattle.model.specs.Book.{Book, holding, positions_of, holdings_of, margins_of}
use Rattle.model.specs.Calls.{Trade, Quote}
use Rattle.model.specs.Effects.{lots_for, traded, quoted}
use Rattle.model.specs.Refusals.{is_open, side_totals}
use Rattle.model.proofs.FrameLaws.{bystander-still}
use Rattle.model.specs.HeldLaws.{holdings-sound, margins-good}
use Rattle.model.specs.Kept.{Kept}
use Rattle.model.proofs.KeptLaws.{kept-once, kept-six}
use Rattle.standing.specs.Standing.{header_row, contract_row, account_row, rows_of}
use Rattle.standing.specs.StandingLaws.{rows-shaped}
use Rattle.standing.specs.MemberLaws.{listed-row}

-- a key's place
pub record Stands (keys : List ℕ) (key place : ℕ) : Type 0 where
  pub below : place < length keys
  pub here : get_or keys place 0 ≡ key

-- a contract's row with another tally
abbrev pub with_tally : Contract → Tally → Contract
with_tally x t = record { code = x.code; margin = x.margin; previous = x.previous; tally = t }

-- ---- while six contracts are listed, a row's holdings are the book's
row-six : (b : Book) → length b.contracts.codes ≡ 6 → (n : ℕ) → (account_row b n).holdings ≡ holdings_of b n
row-six b six n =
    ap (holding (b.accounts.held n))
    (padded-full 6 flat (positions_of b n) (length-map b.contracts.codes (b.accounts.position n) ∙ six))

-- and as large as the callees ask
module _ {b : Book} (g : Kept b) (live : is_open b.today.point ≡ true) where
  pub held-sound : (n : ℕ) → holdings.Sound 10000 (account_row b n).holdings
  held-sound n = rw (row-six b (kept-six g live) n) (sound-wider (holdings-sound g.sized (kept-six g live) n) g.sized.today.trades)

  pub margins-sound : Margins (margins_of b)
  margins-sound = margins-good g.sized (kept-six g live)

  pub margins-are : {c : List ℕ} {m : List ℤ} → Holds c m (rows_of b)
      → margin_at c 0 ∷ margin_at c 1 ∷ margin_at c 2 ∷ margin_at c 3 ∷ margin_at c 4 ∷ margin_at c 5 ∷ [] ≡ margins_of b
  unfolding tab
  margins-are {c} h = tab-is 0 (margin_at c) 6 (margins_of b) margins-sound.six λ i q.
      let low : i < length b.contracts.codes = rw (kept-six g live) q in
      margin-is (rows_of b) (rows-shaped g) h i q
      ∙ ap (λ (x : Contract). x.margin) (listed-row g i low)
      ∙ sym (get_d-map-below (λ c. (b.contracts.terms c).margin) b.contracts.codes i 0 0 low)

-- ---- a trade between two members in a listed contract
pub record Between (b : Book) (t : Trade) (k i j : ℕ) : Type 0 where
  pub live : is_open b.today.point ≡ true
  pub contract : Stands b.contracts.codes t.code k
  pub buyer : Stands b.accounts.members t.buyer i
  pub seller : Stands b.accounts.members t.seller j
  pub apart : eqb t.buyer t.seller ≡ false

module _ {b : Book} {t : Trade} {k i j : ℕ} (g : Kept b) (w : Between b t k i j) where
  pub buyer-lots : lots_for t t.buyer ≡ pos t.lots
  buyer-lots = when_true _ _ (eq-eqb t.buyer t.buyer refl)

  pub seller-lots : lots_for t t.seller ≡ neg_ℤ (pos t.lots)
  seller-lots = when_false _ _ (eqb-flip t.seller t.buyer ∙ w.apart) ∙ when_true _ _ (eq-eqb t.seller t.seller refl)

  -- ---- the rows after it
  positions-after : (n : ℕ)
      → padded 6 flat (positions_of (traded b t) n) ≡ with_deal (padded 6 flat (positions_of b n)) k (lots_for t n) t.rate
  unfolding with_deal
  positions-after n =
      let was = b.accounts.position n in
      let row = w.contract in
      sym (ap (λ p. set (padded 6 flat (positions_of b n)) k (dealt p (lots_for t n) t.rate))
      (table_at 6 flat was b.contracts.codes k row.below ∙ ap was row.here)
      ∙ table-set 6 flat was b.contracts.codes ((traded b t).accounts.position n) t.code k _ (kept-once g) row.below row.here
      (when_true _ _ (eq-eqb t.code t.code refl))
      (λ c e. when_false _ _ e))

  pub account-after : (n : ℕ)
      → account_row (traded b t) n ≡ with_holdings (account_row b n) (with_trade (account_row b n).holdings k (lots_for t n) t.rate)
  unfolding with_trade
  account-after n = ap (λ ps. with_holdings (account_row b n) (holding (b.accounts.held n) ps)) (positions-after n)

  pub contract-after : contract_row (traded b t) t.code
      ≡ with_tally (contract_row b t.code) (tallies.with_trade (b.contracts.tally t.code) t.time (weighted t.lots t.rate))
  contract-after = ap (with_tally (contract_row b t.code)) (when_true _ _ (eq-eqb t.code t.code refl))

  -- what a side says of it: the model's tests 13 and 14
  pub side-is : (n : ℕ) → side_of (margins_of b) k (account_row b n).holdings (account_row (traded b t) n).holdings
      ≡ cond (is_beyond ((traded b t).accounts.position n t.code)) Beyond (by_totals (side_totals b t n))
  unfolding side_of
  side-is n =
      let now = (traded b t).accounts.position n in
      ap₂ (side_of (margins_of b) k) (row-six b (kept-six g w.live) n) (row-six (traded b t) (kept-six g w.live) n)
      ∙ ap (λ p. cond (is_beyond p) Beyond (by_totals (side_totals b t n)))
      (get_d-map-below now b.contracts.codes k 0 flat w.contract.below ∙ ap now w.contract.here)

  -- ---- all rows
  bystander-row : (n : ℕ) → eqb n t.buyer ≡ false → eqb n t.seller ≡ false → account_row (traded b t) n ≡ account_row b n
  bystander-row n p q =
      ap (λ f. with_holdings (account_row b n) (holding (b.accounts.held n) (padded 6 flat (map f b.contracts.codes))))
      (fun_ext (λ c. bystander-still t (b.accounts.position n c) n c p q))

  -- the buyer's row changed
  abbrev bought : ℕ → Account
  bought n = cond (eqb n t.buyer) (account_row (traded b t) t.buyer) (account_row b n)

  sold-too : (n : ℕ) → eqb n t.seller ≡ false → account_row (traded b t) n ≡ bought n
  sold-too n q = by_test (eqb n t.buyer)
      (λ e. ap (account_row (traded b t)) (eqb-true n t.buyer e) ∙ sym (when_true _ _ e))
      (λ e. bystander-row n e q ∙ sym (when_false _ _ e))

  accounts-after : set (set (rows_of b).accounts i (account_row (traded b t) t.buyer)) j (account_row (traded b t) t.seller)
      ≡ (rows_of (traded b t)).accounts
  accounts-after =
      let members = b.accounts.members in
      ap (λ l. set l j (account_row (traded b t) t.seller))
      (table-set 64 blank_account (account_row b) members bought t.buyer i _ g.framed.once w.buyer.below w.buyer.here
      (when_true _ _ (eq-eqb t.buyer t.buyer refl))
      (λ n e. when_false _ _ e))
      ∙ table-set 64 blank_account bought members (account_row (traded b t)) t.seller j _ g.framed.once w.seller.below w.seller.here
      refl sold-too

  contracts-after : set (rows_of b).contracts k (contract_row (traded b t) t.code) ≡ (rows_of (traded b t)).contracts
  contracts-after =
      table-set 6 blank_contract (contract_row b) b.contracts.codes (contract_row (traded b t)) t.code k _ (kept-once g)
      w.contract.below w.contract.here refl
      (λ c e. ap (with_tally (contract_row b c)) (when_false _ _ e))

  pub traded-rows :
      with_header_row
      (with_contracts
      (with_accounts (rows_of b)
      (set (set (rows_of b).accounts i (account_row (traded b t) t.buyer)) j (account_row (traded b t) t.seller)))
      (set (rows_of b).contracts k (contract_row (traded b t) t.code)))
      (header_row (traded b t))
      ≡ rows_of (traded b t)
  traded-rows = ap₂ (λ xs ys. with_contracts (with_accounts (rows_of (traded b t)) xs) ys) accounts-after contracts-after

-- ---- a quote in a listed contract
module _ {b : Book} (q : Quote) {k : ℕ} (g : Kept b) (s : Stands b.contracts.codes q.code k) where
  pub quoted-contract : contract_row (quoted b q) q.code
      ≡ with_tally (contract_row b q.code) (tallies.with_quote (b.contracts.tally q.code) q.time q.side (weighted 1 q.rate))
  quoted-contract = ap (with_tally (contract_row b q.code)) (when_true _ _ (eq-eqb q.code q.code refl))

  pub quoted-rows :
      with_header_row (with_contracts (rows_of b) (set (rows_of b).contracts k (contract_row (quoted b q) q.code))) (header_row (quoted b q))
      ≡ rows_of (quoted b q)
  quoted-rows =
      ap (with_contracts (rows_of (quoted b q)))
      (table-set 6 blank_contract (contract_row b) b.contracts.codes (contract_row (quoted b q)) q.code k _ (kept-once g)
      s.below s.here refl
      (λ c e. ap (with_tally (contract_row b c)) (when_false _ _ e)))
