-- What a proposed trade would give a side, from the rows that are loaded.
use Rattle.std.specs.Prelude.{◌≡◌, refl, Bool, true, false, ◌||◌, List, [], ◌∷◌, ℕ, ◌<◌, eqb, ℤ, pos, neg_ℤ, length, Some, None}
use Rattle.std.proofs.Math.Path.{sym, ap}
use Rattle.std.proofs.Common.{ap₂, ◌∙◌, subst, ⊎_elim, arith, eq-eqb}
use Rattle.std.proofs.Math.ListN.{set}
use Rattle.std.proofs.lemmas.List.{length-map}
use Rattle.lists.specs.HasLaws.{when_true, when_false, clash}
use Rattle.lists.specs.Keep.{cond-keeps}
use Rattle.lists.specs.KeyedLaws.{table_at, table-set}
use Rattle.lists.specs.Padded.{padded}
use Rattle.lists.specs.PaddedLaws.{padded-full}
use Rattle.whole.specs.Within.{Within, within-neg, wider, lit}
use Rattle.positions.specs.Bounds.{Margins, Nets}
use Rattle.positions.specs.Deals.{flat, dealt, with_deal}
use Rattle.holdings.specs.Bounds as holdings
use Rattle.holdings.proofs.BoundLaws.{trade-nets}
use Rattle.holdings.specs.Holdings.{with_trade}
use Rattle.holdings.specs.Limits.{totals_of}
use Rattle.holdings.specs.declared.Holdings.{Holdings}
use Rattle.holdings.specs.declared.Totals.{Totals}
use Rattle.accounts.specs.declared.Account.{Account}
use Rattle.memory.specs.declared.header_row.Header.{Header}
use Rattle.memory.specs.Layout.{Long, header_at, account_at, margin_at}
use Rattle.model.specs.Book.{Book, holding, positions_of, holdings_of, margins_of, is_member, is_listed}
use Rattle.model.specs.Calls.{Trade}
use Rattle.model.specs.Effects.{lots_for, traded}
use Rattle.model.specs.Ranged.{GoodTrade}
use Rattle.model.specs.Refusals.{is_open, side_totals}
use Rattle.model.specs.Kept.{Kept}
use Rattle.model.proofs.KeptLaws.{kept-once, kept-six, kept-few}
use Rattle.standing.specs.Standing.{account_row, view}
use Rattle.standing.specs.Made.{Sound}
use Rattle.standing.specs.StandingLaws.{sound-kept, sound-holds}
use Rattle.standing.specs.MemberLaws.{member-account}
use Rattle.standing.specs.SoundLaws.{sound-header, sound-long}
use Rattle.standing.specs.DealLaws.{Stands, held-sound, margins-sound, margins-are}
use Rattle.particulars.specs.Particulars.{IsSide, asked_in}
use Rattle.particulars.specs.Proposed.{Proposed}

-- ---- a side's lots
module _ (t : Trade) (n : ℕ) where
  pub bought : n ≡ t.buyer → pos t.lots ≡ lots_for t n
  bought e = sym (when_true _ _ (eq-eqb n t.buyer e))

  pub sold : IsSide t n → eqb n t.buyer ≡ false → neg_ℤ (pos t.lots) ≡ lots_for t n
  sold side e =
      sym (when_false _ _ e ∙ when_true _ _
      (⊎_elim (λ p. clash (eq-eqb n t.buyer p) e) (λ p. eq-eqb n t.seller p) side))

  pub lots-within : GoodTrade t → Within 1000 (lots_for t n)
  lots-within g =
      cond-keeps (Within 1000) (eqb n t.buyer) _ _
      (λ e. record { size = g.most })
      (λ e. cond-keeps (Within 1000) (eqb n t.seller) _ _
      (λ d. within-neg {x = pos t.lots} (record { size = g.most }))
      (λ d. wider (lit (pos 0)) tt))

-- ---- while six contracts are listed, a row's holdings are the book's
row-six : (b : Book) → length b.contracts.codes ≡ 6 → (n : ℕ) → (account_row b n).holdings ≡ holdings_of b n
row-six b six n =
    ap (holding (b.accounts.held n))
    (padded-full 6 flat (positions_of b n) (length-map b.contracts.codes (b.accounts.position n) ∙ six))

-- ---- a trade in the contract of row k moves any account by its lots
module _ {b : Book} (t : Trade) {k : ℕ} (g : Kept b) (row : Stands b.contracts.codes t.code k) (n : ℕ) where
  positions-after : padded 6 flat (positions_of (traded b t) n) ≡ with_deal (padded 6 flat (positions_of b n)) k (lots_for t n) t.rate
  unfolding with_deal
  positions-after =
      let was = b.accounts.position n in
      sym (ap (λ p. set (padded 6 flat (positions_of b n)) k (dealt p (lots_for t n) t.rate))
      (table_at 6 flat was b.contracts.codes k row.below ∙ ap was row.here)
      ∙ table-set 6 flat was b.contracts.codes ((traded b t).accounts.position n) t.code k _ (kept-once g) row.below row.here
      (when_true _ _ (eq-eqb t.code t.code refl))
      (λ c e. when_false _ _ e))

  holdings-after : (account_row (traded b t) n).holdings ≡ with_trade (account_row b n).holdings k (lots_for t n) t.rate
  unfolding with_trade
  holdings-after = ap (holding (b.accounts.held n)) positions-after

  totals-after : is_open b.today.point ≡ true
      → totals_of (margins_of b) (account_row b n).holdings (with_trade (account_row b n).holdings k (lots_for t n) t.rate) ≡ side_totals b t n
  totals-after live =
      ap₂ (totals_of (margins_of b)) (row-six b (kept-six g live) n) (sym holdings-after ∙ row-six (traded b t) (kept-six g live) n)

-- ---- what is loaded
module _ {c : List ℕ} {m : List ℤ} {t : Trade} {n k i : ℕ} (d : Proposed c m t n k i) where
  known : Kept (view c m)
  known = sound-kept d.sound

  pub proposed-long : Long c m
  proposed-long = sound-long d.sound

  pub row-k : k < 6
  row-k = omega (arith, d.contract.below, kept-few known)

  pub row-i : i < 64
  row-i = omega (arith, d.side.below, known.sized.members)

  side-in : account_at c m i ≡ account_row (view c m) n
  side-in = member-account known (sound-holds d.sound) n i d.side.below d.side.here

  pub side-sound : {a : Account} → a ≡ account_at c m i → holdings.Sound 10000 a.holdings
  side-sound e = rw (e ∙ side-in) (held-sound known d.live n)

  pub nets-after : {a : Account} {after : Holdings} {lots rate : ℤ} → a ≡ account_at c m i → Within 1000 lots → Within 100000 rate
      → after ≡ with_trade a.holdings k lots rate → Nets 21000 after.positions
  nets-after e l r f = subst (λ (x : Holdings). Nets 21000 x.positions) (sym f) (trade-nets (side-sound e) k l r)

  abbrev margins_in : List ℕ
  margins_in = margin_at c 0 ∷ margin_at c 1 ∷ margin_at c 2 ∷ margin_at c 3 ∷ margin_at c 4 ∷ margin_at c 5 ∷ []

  margins-in : {margins : List ℕ} → margins ≡ margins_in → margins ≡ margins_of (view c m)
  margins-in e = e ∙ margins-are known d.live (sound-holds d.sound)

  pub margins-fit : {margins : List ℕ} → margins ≡ margins_in → Margins margins
  margins-fit e = rw (margins-in e) (margins-sound known d.live)

  -- and the totals that it gives
  pub totals-are : {a : Account} {after : Holdings} {margins : List ℕ} {lots rate : ℤ} → a ≡ account_at c m i → margins ≡ margins_in
      → after ≡ with_trade a.holdings k lots rate → lots ≡ lots_for t n → rate ≡ t.rate
      → totals_of margins a.holdings after ≡ side_totals (view c m) t n
  totals-are e ms f l r =
      rw (f, l, r, e ∙ side-in, margins-in ms) (totals-after t known d.contract n d.live)

-- ---- what is answered
pub open_is : {c : List ℕ} {m : List ℤ} → Sound c m → {h : Header} {r : Bool} → h ≡ header_at c → r ≡ (eqb h.point 2 || eqb h.point 3)
    → is_open (view c m).today.point ≡ r
open_is s p q = sym (q ∙ ap (λ (x : Header). eqb x.point 2 || eqb x.point 3) (p ∙ sound-header s))

module _ (b : Book) (t : Trade) (n : ℕ) where
  pub asked-shut : is_open b.today.point ≡ false → None ≡ asked_in b t n
  asked-shut o = sym (when_false _ _ o)

  module _ (live : is_open b.today.point ≡ true) where
    pub asked-unlisted : is_listed b t.code ≡ false → None ≡ asked_in b t n
    asked-unlisted l = sym (when_true _ _ live ∙ when_false _ _ l)

    module _ (listed : is_listed b t.code ≡ true) where
      pub asked-unknown : is_member b n ≡ false → None ≡ asked_in b t n
      asked-unknown e = sym (when_true _ _ live ∙ when_true _ _ listed ∙ when_false _ _ e)

      pub asked-totals : is_member b n ≡ true → {x : Totals} → x ≡ side_totals b t n → Some x ≡ asked_in b t n
      asked-totals e p = ap (λ (y : Totals). Some y) p ∙ sym (when_true _ _ live ∙ when_true _ _ listed ∙ when_true _ _ e)
