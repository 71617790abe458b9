-- When a side of a trade is over its limit, and which sides are refused.
use Rattle.std.specs.Prelude.{◌≡◌, refl, ◌⊎◌, ◌↔◌, true, false, List, ℕ, ◌≤◌, ◌<◌, get_or, ℤ, pos, ◌+ℤ◌, ◌≤ℤ◌, ◌<ℤ◌}
use Rattle.std.proofs.Common.{sym, ◌∙◌, subst, inl, inr, le_trans, arith}
use Rattle.std.proofs.Math.Bool.{and-eq-true_iff, not-eq-not}
use Rattle.std.proofs.lemmas.Bool.{false≢true}
use borrow.Author.Tests.{ltb-true, ltb-false}
use Rattle.std.proofs.Math.IntN.{nat_abs}
use Rattle.std.specs.Int.Signed.{lt_z, clash_ℤ}
use Rattle.lists.specs.Keep.{cond-keeps, set_keeps}
use Rattle.whole.specs.Order.{≤ℤ-total}
use Rattle.whole.specs.Tests.{lt_yes, lt-true}
use Rattle.positions.specs.Deals.{flat, dealt, with_deal}
use Rattle.positions.specs.Beyond.{is_beyond}
use Rattle.totals.proofs.TotalLaws.{total-reduced}
use Rattle.holdings.specs.Holdings.{with_trade}
use Rattle.holdings.specs.Limits.{totals_of, is_over, by_totals, side_of, refusal_of}
use Rattle.holdings.specs.declared.Holdings.{Holdings}
use Rattle.holdings.specs.declared.Totals.{Totals}
use Rattle.holdings.specs.declared.Side.{Side}
use Rattle.holdings.specs.declared.Side.TheVariants.{Passes, Beyond, Over}

-- ---- over the limit
-- Document 01, Trade: "A side is over the limit exactly when its new total exceeds the limit and also exceeds its total before."
pub over-exactly : (t : Totals) → (is_over t ≡ true) ↔ ((t.limit <ℤ t.after) × (t.before <ℤ t.after))
unfolding is_over
over-exactly t =
    let tests = and-eq-true_iff (lt_z t.limit t.after) (lt_z t.before t.after) in (
      λ e. let both = tests.0 e in (lt_yes refl refl both.0, lt_yes refl refl both.1),
      λ h. tests.1 (lt-true h.0, lt-true h.1),
    )

-- a total that does not rise, whatever the limit
pub over-not-risen : (t : Totals) → t.after ≤ℤ t.before → is_over t ≡ false
over-not-risen t h = not-eq-not.0 (λ e. clash_ℤ ((over-exactly t).0 e).1 h)

-- a total within the limit, whatever it was before
pub over-not-within : (t : Totals) → t.after ≤ℤ t.limit → is_over t ≡ false
over-not-within t h = not-eq-not.0 (λ e. clash_ℤ ((over-exactly t).0 e).0 h)

-- the rest: within the limit, or no higher than before
abbrev pub Allowed : Totals → Type 0
Allowed t = (t.after ≤ℤ t.limit) ⊎ (t.after ≤ℤ t.before)

pub not-over-allowed : (t : Totals) → is_over t ≡ false → Allowed t
not-over-allowed t e = go (≤ℤ-total t.limit t.after) (≤ℤ-total t.before t.after)
  where
    go : (t.limit <ℤ t.after) ⊎ (t.after ≤ℤ t.limit) → (t.before <ℤ t.after) ⊎ (t.after ≤ℤ t.before) → Allowed t
    go (inl h) (inl k) = absurd (false≢true (sym e ∙ (over-exactly t).1 (h, k)))
    go (inl h) (inr k) = inr k
    go (inr h) k = inl h

-- Document 01, Twelve marked examples, 11: "A side with total 12,000,000 before, 9,000,000 after and limit 6,000,000 is not over
-- the limit; with 12,000,001 after it is."
pub example-11 :
    (is_over (record { before = pos 12000000; after = pos 9000000; limit = pos 6000000 }) ≡ false)
    × (is_over (record { before = pos 12000000; after = pos 12000001; limit = pos 6000000 }) ≡ true)
unfolding is_over
example-11 = (refl, refl)

-- ---- which sides are refused
-- the net in the contract of a row
abbrev pub net_in : ℕ → Holdings → ℤ
net_in row h = (get_or h.positions row flat).net

-- The three cases, by a side's net and its totals. Document 01, Refusal numbers: "First that applies: .. 13, 14".
pub data Judged (net : ℤ) (t : Totals) : Side → Type 0 where
  beyond : 20000 < nat_abs net → Judged net t Beyond
  over : nat_abs net ≤ 20000 → t.limit <ℤ t.after → t.before <ℤ t.after → Judged net t (Over t)
  passes : nat_abs net ≤ 20000 → Allowed t → Judged net t (Passes t)

module _ (margins : List ℕ) (row : ℕ) (h after : Holdings) where
  pub side-judged : Judged (net_in row after) (totals_of margins h after) (side_of margins row h after)
  unfolding side_of
  side-judged =
      let net = net_in row after in
      let t = totals_of margins h after in
      cond-keeps (Judged net t) (is_beyond (get_or after.positions row flat)) Beyond (by_totals t)
      (λ e. beyond (ltb-true 20000 (nat_abs net) e))
      λ e.
      let small = ltb-false 20000 (nat_abs net) e in
      cond-keeps (Judged net t) (is_over t) (Over t) (Passes t)
      (λ o. let both = (over-exactly t).0 o in over small both.0 both.1)
      (λ o. passes small (not-over-allowed t o))

  pub side-passes : (t : Totals) → side_of margins row h after ≡ Passes t
      → (t ≡ totals_of margins h after) × (nat_abs (net_in row after) ≤ 20000) × Allowed t
  side-passes t e = go side-judged e
    where
      go : {s : Side} → Judged (net_in row after) (totals_of margins h after) s → s ≡ Passes t
          → (t ≡ totals_of margins h after) × (nat_abs (net_in row after) ≤ 20000) × Allowed t
      go (beyond b) e = absurd (let z : ◌≡◌ {A = ℕ} 0 1 = cc in omega arith)
      go (over small l k) e = absurd (let z : ◌≡◌ {A = ℕ} 0 1 = cc in omega arith)
      go (passes small a) e =
          let q : t ≡ totals_of margins h after = cc in
          (q, small, subst Allowed (sym q) a)

-- ---- each refusal in its case, and in no other
module _ {net : ℤ} {t : Totals} where
  judged-13 : {s : Side} → Judged net t s → (refusal_of s ≡ 13) ↔ (20000 < nat_abs net)
  judged-13 (beyond b) = (λ e. b, λ b. refl)
  judged-13 (over small l k) = (λ e. absurd (omega arith), λ b. absurd (omega arith))
  judged-13 (passes small a) = (λ e. absurd (omega arith), λ b. absurd (omega arith))

  judged-14 : {s : Side} → Judged net t s
      → (refusal_of s ≡ 14) ↔ ((nat_abs net ≤ 20000) × (t.limit <ℤ t.after) × (t.before <ℤ t.after))
  judged-14 (beyond b) = (λ e. absurd (omega arith), λ c. absurd (omega arith))
  judged-14 (over small l k) = (λ e. (small, l, k), λ c. refl)
  judged-14 (passes small (inl a)) = (λ e. absurd (omega arith), λ c. clash_ℤ c.1 a)
  judged-14 (passes small (inr a)) = (λ e. absurd (omega arith), λ c. clash_ℤ c.2 a)

  judged-0 : {s : Side} → Judged net t s → (refusal_of s ≡ 0) ↔ ((nat_abs net ≤ 20000) × Allowed t)
  judged-0 (beyond b) = (λ e. absurd (omega arith), λ c. absurd (omega arith))
  judged-0 (over small l k) = (λ e. absurd (omega arith), λ c. absurd (fits c.1))
    where
      fits : Allowed t → ⊥
      fits (inl a) = clash_ℤ l a
      fits (inr a) = clash_ℤ k a
  judged-0 (passes small a) = (λ e. (small, a), λ c. refl)

module _ (margins : List ℕ) (row : ℕ) (h after : Holdings) where
  -- "13 | net beyond 20,000"
  pub refused-13 : (refusal_of (side_of margins row h after) ≡ 13) ↔ (20000 < nat_abs (net_in row after))
  refused-13 = judged-13 (side-judged margins row h after)

  -- "14 | over the limit"
  pub refused-14 : let t = totals_of margins h after in
      (refusal_of (side_of margins row h after) ≡ 14)
      ↔ ((nat_abs (net_in row after) ≤ 20000) × (t.limit <ℤ t.after) × (t.before <ℤ t.after))
  refused-14 = judged-14 (side-judged margins row h after)

  -- not refused
  pub refused-0 : (refusal_of (side_of margins row h after) ≡ 0)
      ↔ ((nat_abs (net_in row after) ≤ 20000) × Allowed (totals_of margins h after))
  refused-0 = judged-0 (side-judged margins row h after)

-- ---- a reducing trade
-- Document 01, Mistakes: "Refusing a reducing trade because the limit is already passed." A trade that leaves its net no
-- further from zero passes, whatever the limit.
module _ (margins : List ℕ) (row : ℕ) (h : Holdings) (lots rate : ℤ) where
  reduced-net : nat_abs (net_in row h) ≤ 20000 → nat_abs (net_in row h +ℤ lots) ≤ nat_abs (net_in row h)
      → nat_abs (net_in row (with_trade h row lots rate)) ≤ 20000
  unfolding with_trade with_deal
  reduced-net small nearer =
      set_keeps (λ p. nat_abs p.net ≤ 20000) flat h.positions row row
      (dealt (get_or h.positions row flat) lots rate)
      (le_trans nearer small)
      small

  reduced-total : nat_abs (net_in row h +ℤ lots) ≤ nat_abs (net_in row h)
      → (totals_of margins h (with_trade h row lots rate)).after ≤ℤ (totals_of margins h (with_trade h row lots rate)).before
  unfolding with_trade totals_of
  reduced-total nearer = total-reduced h.positions margins row lots rate nearer

  pub reducing-passes : nat_abs (net_in row h) ≤ 20000 → nat_abs (net_in row h +ℤ lots) ≤ nat_abs (net_in row h)
      → refusal_of (side_of margins row h (with_trade h row lots rate)) ≡ 0
  reducing-passes small nearer =
      (refused-0 margins row h (with_trade h row lots rate)).1 (reduced-net small nearer, inr (reduced-total nearer))
