-- A ticket's parts add up: variation, positions and the book after them.
use Rattle.std.specs.Prelude.{◌≡◌, refl, Bool, true, false, cond, ◌||◌, ℕ, ◌+◌, eqb, ℤ, pos, neg_ℤ, ◌+ℤ◌, ◌-ℤ◌, ◌*ℤ◌}
use Rattle.std.proofs.Common.{sym, ap, ap₂, ◌∙◌, eqb-true, eq-eqb}
use Rattle.std.proofs.Math.Path.{fun_ext}
use Rattle.std.proofs.lemmas.Bool.{false≢true}
use Rattle.std.proofs.Math.IntN.{+ℤ_assoc, +ℤ_idr, +ℤ_invr}
use Rattle.lists.specs.HasLaws.{by_test, cond_same}
use Rattle.whole.specs.Ring.{add-mulℤ}
use Rattle.whole.specs.Expand.{expand, neg-*ℤ}
use Rattle.whole.specs.Parts.{ring, zarith}
use Rattle.tallies.specs.declared.Tally.{Tally}
use Rattle.positions.specs.Deals.{Deal, bought, sold, dealt}
use Rattle.positions.specs.declared.Position.{Position}
use Rattle.positions.specs.declared.Mark.{Mark}
use Rattle.booking.specs.Variation.{variation_at}
use Rattle.model.specs.Book.{Book, replaced}
use Rattle.model.specs.Calls.{Trade}
use Rattle.model.specs.Effects.{with_day, with_positions, lots_for, traded, after}
use Rattle.model.specs.Answers.{called}
use Rattle.model.specs.History.{deal_for}
use Rattle.model.specs.Promises.{worth_at}
use Rattle.model.specs.RefusalLaws.{accepted-called}
use Rattle.model.proofs.FrameLaws.{dealt-none}
use Rattle.model.specs.Tickets.{Split, whole, first, second, earns, exchanged, position_in, AddsUp, SplitAlike, SameEnd}

-- ---- variation
abbrev deal_of : ℤ → ℤ → Deal
deal_of lots rate = record { lots = lots; rate = rate }

deal-adds : (p : Position) (l rate : ℤ) (m : Mark) → variation_at (dealt p l rate) m ≡ variation_at p m +ℤ worth_at m.rate (deal_of l rate)
unfolding variation_at
deal-adds p l t m = go p.net p.before p.cost m.rate m.previous
  where
    go : (n b c r q : ℤ)
        → pos 250 *ℤ ((((n +ℤ l) -ℤ b) *ℤ r -ℤ (c +ℤ l *ℤ t)) +ℤ b *ℤ (r -ℤ q))
        ≡ pos 250 *ℤ (((n -ℤ b) *ℤ r -ℤ c) +ℤ b *ℤ (r -ℤ q)) +ℤ l *ℤ (pos 250 *ℤ (r -ℤ t))
    go n b c r q = simp expand

parts-lots : (s : Split) (n : ℕ) → lots_for (whole s) n ≡ lots_for (first s) n +ℤ lots_for (second s) n
parts-lots s n = go (eqb n s.buyer) (eqb n s.seller) s.first_lots s.second_lots
  where
    go : (x y : Bool) (m k : ℕ)
        → cond x (pos (m + k)) (cond y (neg_ℤ (pos (m + k))) (pos 0))
        ≡ cond x (pos m) (cond y (neg_ℤ (pos m)) (pos 0)) +ℤ cond x (pos k) (cond y (neg_ℤ (pos k)) (pos 0))
    go true y m k = refl
    go false true m k = simp ring (omega zarith)
    go false false m k = refl

-- nobody is both sides
exchanged-lots : (t : Trade) (n : ℕ) → eqb t.buyer t.seller ≡ false → lots_for (exchanged t) n ≡ neg_ℤ (lots_for t n)
exchanged-lots t n apart =
    by_test (eqb n t.buyer)
    (λ buys. rw (buys, ap (λ x. eqb x t.seller) (eqb-true n t.buyer buys) ∙ apart))
    (λ other. rw other (go (eqb n t.seller) t.lots))
  where
    go : (x : Bool) (l : ℕ) → cond x (pos l) (pos 0) ≡ neg_ℤ (cond x (neg_ℤ (pos l)) (pos 0))
    go true l = simp ring (omega zarith)
    go false l = refl

-- a side's deal, as the log has it
side-deal : (t : Trade) (n : ℕ) → (eqb n t.buyer || eqb n t.seller) ≡ true → deal_of (lots_for t n) t.rate ≡ deal_for n t
side-deal t n = go (eqb n t.buyer) (eqb n t.seller)
  where
    go : (x y : Bool) → (x || y) ≡ true
        → deal_of (cond x (pos t.lots) (cond y (neg_ℤ (pos t.lots)) (pos 0))) t.rate ≡ cond x (bought t.lots t.rate) (sold t.lots t.rate)
    go true y side = refl
    go false true side = refl
    go false false side = absurd (false≢true side)

trade-adds : (b : Book) (t : Trade) (n c : ℕ) (m : Mark)
    → variation_at (position_in (traded b t) n c) m ≡ variation_at (position_in b n c) m +ℤ cond (eqb c t.code) (earns m.rate n t) (pos 0)
trade-adds b t n c m = go (eqb c t.code)
  where
    go : (x : Bool)
        → variation_at (cond x (dealt (position_in b n c) (lots_for t n) t.rate) (position_in b n c)) m
        ≡ variation_at (position_in b n c) m +ℤ cond x (earns m.rate n t) (pos 0)
    go true = deal-adds (position_in b n c) (lots_for t n) t.rate m
    go false = sym (+ℤ_idr (variation_at (position_in b n c) m))

-- ---- positions
-- two deals at one rate, in a contract or not, are one of their lots together
twice : (x : Bool) (p : Position) (l k rate : ℤ) → let once = cond x (dealt p l rate) p in cond x (dealt once k rate) once ≡ cond x (dealt p (l +ℤ k) rate) p
twice true p l k rate = rw (+ℤ_assoc p.net l k, add-mulℤ l k rate, +ℤ_assoc p.cost (l *ℤ rate) (k *ℤ rate))
twice false p l k rate = refl

trade-undone : (b : Book) (t : Trade) → eqb t.buyer t.seller ≡ false → (traded (traded b t) (exchanged t)).accounts ≡ b.accounts
trade-undone b t apart = ap (λ p. (with_positions b p).accounts) (fun_ext λ n. fun_ext λ c.
    twice (eqb c t.code) (position_in b n c) (lots_for t n) (lots_for (exchanged t) n) t.rate
    ∙ cond_same (eqb c t.code) (ap (λ l. dealt (position_in b n c) l t.rate) (none n) ∙ dealt-none (position_in b n c) t.rate))
  where
    none : (n : ℕ) → lots_for t n +ℤ lots_for (exchanged t) n ≡ pos 0
    none n = ap (λ l. lots_for t n +ℤ l) (exchanged-lots t n apart) ∙ +ℤ_invr (lots_for t n)

pub adds-up : AddsUp
adds-up = record {
  adds = trade-adds;
  additive = λ s rate n. rw (parts-lots s n) (add-mulℤ (lots_for (first s) n) (lots_for (second s) n) (pos 250 *ℤ (rate -ℤ s.rate)));
  negated = λ t rate n apart. rw (exchanged-lots t n apart) (neg-*ℤ (lots_for t n) (pos 250 *ℤ (rate -ℤ t.rate)));
  undone = trade-undone;
  as-promised = λ t rate n side. ap (worth_at rate) (side-deal t n side);
}

-- ---- the book after the ticket, and after its parts
module _ (s : Split) (b : Book) where
  pub positions-alike : (traded b (whole s)).accounts.position ≡ (traded (traded b (first s)) (second s)).accounts.position
  positions-alike = fun_ext λ n. fun_ext λ c.
      ap (λ l. cond (eqb c s.code) (dealt (position_in b n c) l s.rate) (position_in b n c)) (parts-lots s n)
      ∙ sym (twice (eqb c s.code) (position_in b n c) (lots_for (first s) n) (lots_for (second s) n) s.rate)

  -- the tallies of the other contracts are the same
  tallies-alike : replaced (traded b (whole s)).contracts.tally s.code ((traded (traded b (first s)) (second s)).contracts.tally s.code)
      ≡ (traded (traded b (first s)) (second s)).contracts.tally
  tallies-alike = fun_ext λ c. by_test (eqb c s.code) (λ d. rw (d, eq-eqb s.code s.code refl)) (λ d. rw d)

  -- the book after the two parts, by its tallies and positions
  abbrev ended : (ℕ → Tally) → (ℕ → ℕ → Position) → Book
  ended tally p =
      with_positions
      (with_day b (traded (traded b (first s)) (second s)).today (record { codes = b.contracts.codes; terms = b.contracts.terms; tally = tally }))
      p

  split-alike : SplitAlike s.code (traded b (whole s)) (traded (traded b (first s)) (second s))
  split-alike = record {
    accounts = ap (λ p. (with_positions b p).accounts) positions-alike;
    no_more = ap₂ ended tallies-alike positions-alike;
    one_more = refl;
  }

pub same_end : SameEnd
unfolding after
same_end s b e f g t p q r =
    rw (accepted-called b e p t.wholes, accepted-called (called b f) g r t.seconds, accepted-called b f q t.firsts) (split-alike s b)
