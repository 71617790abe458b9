-- How a total moves with one deal, and that it nets nothing.
use Rattle.std.specs.Prelude.{◌≡◌, refl, List, [], ◌∷◌, ℕ, zero, suc, ◌+◌, ◌*◌, ◌≤◌, ◌<◌, length, set, replicate, ℤ, pos, nat_abs, ◌+ℤ◌, ◌-ℤ◌, ◌≤ℤ◌}
use Rattle.std.proofs.Math.Path.{ap}
use Rattle.std.proofs.Common.{◌∙◌, le_refl, add-mul, mul-le-mul_right, arith, length-set}
use Rattle.std.proofs.Math.Nat.{suc_inj}
use Rattle.std.proofs.Math.ListN.{get_or}
use Rattle.std.specs.Int.Signed.{≤ℤ_refl}
use Rattle.lists.specs.Zipped.{zipped, zipped-inside, zipped-at, zipped-set}
use Rattle.whole.specs.Parts.{parts₁, parts₂, ring, zarith}
use Rattle.whole.specs.Order.{pos-nonneg, +ℤ-mono}
use Rattle.whole.specs.Within.{nat_abs-+}
use Rattle.whole.specs.Amounts.{amount-pos}
use Rattle.whole.specs.Sums.{sum_z, sum-set}
use Rattle.positions.specs.Deals.{flat, dealt, with_deal}
use Rattle.positions.specs.declared.Position.{Position}
use Rattle.totals.specs.Totals.{asked, total}

-- ---- one contract more
-- Document 01, Trade: "the sum over contracts of |net| times margin rate (no netting between contracts)".
pub total-none : (margins : List ℕ) → total [] margins ≡ pos 0
unfolding total zipped sum_z
total-none margins = refl

pub total-more : (p : Position) (ps : List Position) (margin : ℕ) (margins : List ℕ)
    → total (p ∷ ps) (margin ∷ margins) ≡ asked p margin +ℤ total ps margins
unfolding total zipped sum_z
total-more p ps margin margins = refl

-- Document 01, Mistakes: "Netting 2312 against 2403 in the total."
pub total-two : (p q : Position) (margin other : ℕ)
    → total (p ∷ q ∷ []) (margin ∷ other ∷ []) ≡ pos (nat_abs p.net * margin + nat_abs q.net * other)
unfolding total zipped sum_z
total-two p q margin other = ap pos (omega arith)

pub total-flat : (n : ℕ) (margins : List ℕ) → total (replicate n flat) margins ≡ pos 0
unfolding total zipped sum_z
total-flat zero margins = refl
total-flat (suc n) [] = refl
total-flat (suc n) (margin ∷ margins) = rw (total-flat n margins) (ap pos (omega arith))

pub total-nonneg : (ps : List Position) (margins : List ℕ) → pos 0 ≤ℤ total ps margins
unfolding total zipped sum_z
total-nonneg [] margins = ≤ℤ_refl (pos 0)
total-nonneg (p ∷ ps) [] = ≤ℤ_refl (pos 0)
total-nonneg (p ∷ ps) (margin ∷ margins) = +ℤ-mono (pos-nonneg (nat_abs p.net * margin)) (total-nonneg ps margins)

-- ---- one position changed
module _ (ps : List Position) (margins : List ℕ) (row : ℕ) (h : row < length ps) (k : row < length margins) where
  pub total-set : (q : Position)
      → total (set ps row q) margins
      ≡ total ps margins +ℤ (asked q (get_or margins row 0) -ℤ asked (get_or ps row flat) (get_or margins row 0))
  unfolding total
  total-set q =
      let margin = get_or margins row 0 in
      ap sum_z (zipped-set asked 0 ps margins row q k)
      ∙ sum-set (zipped asked ps margins) row (asked q margin) (zipped-inside asked ps margins row h k)
      ∙ ap (λ t. sum_z (zipped asked ps margins) +ℤ (asked q margin -ℤ t)) (zipped-at asked (pos 0) flat 0 ps margins row h k)

  pub total-dealt : (lots rate : ℤ)
      → total (with_deal ps row lots rate) margins
      ≡ total ps margins
      +ℤ (asked (dealt (get_or ps row flat) lots rate) (get_or margins row 0) -ℤ asked (get_or ps row flat) (get_or margins row 0))
  unfolding with_deal
  total-dealt lots rate = total-set (dealt (get_or ps row flat) lots rate)

  -- by at most the margin of the lots dealt
  pub total-moved : (lots rate : ℤ)
      → nat_abs (total (with_deal ps row lots rate) margins -ℤ total ps margins) ≤ nat_abs lots * get_or margins row 0
  total-moved lots rate =
      let margin = get_or margins row 0 in
      let net = (get_or ps row flat).net in
      rw (total-dealt lots rate)
      (apart (total ps margins) (nat_abs (net +ℤ lots) * margin) (nat_abs net * margin) (nat_abs lots * margin)
      (omega (arith, mul-le-mul_right margin (nat_abs-+ net lots), add-mul (nat_abs net) (nat_abs lots) margin))
      (omega (arith, mul-le-mul_right margin (without net lots), add-mul (nat_abs (net +ℤ lots)) (nat_abs lots) margin)))
    where
      without : (net lots : ℤ) → nat_abs net ≤ nat_abs (net +ℤ lots) + nat_abs lots
      without net lots = parts₂ net lots (λ x y. simp (x.is, y.is, ring) (omega zarith))

      apart : (t : ℤ) (a b k : ℕ) → a ≤ b + k → b ≤ a + k → nat_abs ((t +ℤ (pos a -ℤ pos b)) -ℤ t) ≤ k
      apart t a b k h g = parts₁ t (λ x. simp (x.is, ring) (omega zarith))

-- ---- nets that are nowhere larger
pub total-smaller : (qs ps : List Position) (margins : List ℕ) → length qs ≡ length ps
    → ((i : ℕ) → nat_abs (get_or qs i flat).net ≤ nat_abs (get_or ps i flat).net)
    → total qs margins ≤ℤ total ps margins
unfolding total zipped sum_z
total-smaller [] [] margins e h = ≤ℤ_refl (pos 0)
total-smaller [] (p ∷ ps) margins e h = absurd (omega arith)
total-smaller (q ∷ qs) [] margins e h = absurd (omega arith)
total-smaller (q ∷ qs) (p ∷ ps) [] e h = ≤ℤ_refl (pos 0)
total-smaller (q ∷ qs) (p ∷ ps) (margin ∷ margins) e h =
    +ℤ-mono (amount-pos (nat_abs q.net * margin) (mul-le-mul_right margin (h 0))).most
    (total-smaller qs ps margins (suc_inj e) (λ i. h (suc i)))

set-smaller : (ps : List Position) (row : ℕ) (q : Position) → nat_abs q.net ≤ nat_abs (get_or ps row flat).net
    → (i : ℕ) → nat_abs (get_or (set ps row q) i flat).net ≤ nat_abs (get_or ps i flat).net
set-smaller [] row q h i = le_refl 0
set-smaller (p ∷ ps) zero q h zero = h
set-smaller (p ∷ ps) zero q h (suc i) = le_refl _
set-smaller (p ∷ ps) (suc row) q h zero = le_refl _
set-smaller (p ∷ ps) (suc row) q h (suc i) = set-smaller ps row q h i

-- a deal that leaves its net no further from zero never lifts the total
pub total-reduced : (ps : List Position) (margins : List ℕ) (row : ℕ) (lots rate : ℤ)
    → nat_abs ((get_or ps row flat).net +ℤ lots) ≤ nat_abs (get_or ps row flat).net
    → total (with_deal ps row lots rate) margins ≤ℤ total ps margins
unfolding with_deal
total-reduced ps margins row lots rate h =
    let q = dealt (get_or ps row flat) lots rate in
    total-smaller (set ps row q) ps margins (length-set ps row q) (set-smaller ps row q h)
