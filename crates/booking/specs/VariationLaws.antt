-- What a close books: the same from what is kept as from the deals, and in proportion to the lots.
use Rattle.std.specs.Prelude.{◌≡◌, List, [], ◌∷◌, ◌++◌, map, ℕ, ℤ, pos, negsuc, neg_ℤ, ◌+ℤ◌, ◌-ℤ◌, ◌*ℤ◌}
use Rattle.std.proofs.Common.{sym, ap, ◌∙◌}
use Rattle.std.proofs.Math.IntN.{+ℤ_invr, zero-*ℤ, *ℤ-zero, +ℤ_assoc}
use Rattle.whole.specs.Ring.{add-mulℤ}
use Rattle.whole.specs.Parts.{parts₁, parts₂, ring, zarith}
use Rattle.whole.specs.Expand.{expand}
use Rattle.whole.specs.Sums.{sum_z}
use Rattle.whole.specs.Over.{over-append}
use Rattle.positions.specs.Deals.{Deal, bought, sold, lots_of, cost_of, position_of, flat}
use Rattle.positions.specs.declared.Position.{Position}
use Rattle.positions.specs.declared.Mark.{Mark}
use Rattle.booking.specs.Variation.{earned, variation_of, variation_at}

-- ---- what is kept gives what the list gives
pub earned-kept : (rate : ℤ) (today : List Deal)
    → sum_z (map (earned rate) today) ≡ lots_of today *ℤ rate -ℤ cost_of today
unfolding sum_z lots_of cost_of
earned-kept rate [] = sym (ap (λ t. t -ℤ pos 0) (zero-*ℤ rate))
earned-kept rate (d ∷ today) =
    ap (λ s. earned rate d +ℤ s) (earned-kept rate today) ∙ more d.lots d.rate (lots_of today) (cost_of today)
  where
    more : (l t lots cost : ℤ) → l *ℤ (rate -ℤ t) +ℤ (lots *ℤ rate -ℤ cost) ≡ (l +ℤ lots) *ℤ rate -ℤ (l *ℤ t +ℤ cost)
    more l t lots cost = simp expand

pub variation-kept : (before : ℤ) (today : List Deal) (m : Mark)
    → variation_at (position_of before today) m ≡ variation_of today before m.previous m.rate
unfolding variation_at variation_of
variation-kept before today m =
    rw (earned-kept m.rate today, back before (lots_of today))
  where
    back : (b l : ℤ) → (b +ℤ l) -ℤ b ≡ l
    back b l = parts₂ b l (λ x y. simp (x.is, y.is, ring) (omega zarith))

-- ---- two lists and two nets
pub variation-append : (a b : List Deal) (x y previous rate : ℤ)
    → variation_of (a ++ b) (x +ℤ y) previous rate ≡ variation_of a x previous rate +ℤ variation_of b y previous rate
unfolding variation_of
variation-append a b x y previous rate =
    rw (over-append (earned rate) a b)
    (spread (sum_z (map (earned rate) a)) (sum_z (map (earned rate) b)) x y (rate -ℤ previous))
  where
    spread : (s t x y d : ℤ)
        → pos 250 *ℤ ((s +ℤ t) +ℤ (x +ℤ y) *ℤ d) ≡ pos 250 *ℤ (s +ℤ x *ℤ d) +ℤ pos 250 *ℤ (t +ℤ y *ℤ d)
    spread s t x y d = simp expand

-- ---- all lots times k
abbrev pub scaled : ℤ → List Deal → List Deal
scaled k today = map (λ d. record { lots = k *ℤ d.lots; rate = d.rate }) today

earned-scaled : (k rate : ℤ) (today : List Deal)
    → sum_z (map (earned rate) (scaled k today)) ≡ k *ℤ sum_z (map (earned rate) today)
unfolding sum_z
earned-scaled k rate [] = sym (*ℤ-zero k)
earned-scaled k rate (d ∷ today) =
    ap (λ s. (k *ℤ d.lots) *ℤ (rate -ℤ d.rate) +ℤ s) (earned-scaled k rate today)
    ∙ more d.lots (rate -ℤ d.rate) (sum_z (map (earned rate) today))
  where
    more : (l e s : ℤ) → (k *ℤ l) *ℤ e +ℤ k *ℤ s ≡ k *ℤ (l *ℤ e +ℤ s)
    more l e s = simp expand

pub variation-scaled : (k : ℤ) (today : List Deal) (before previous rate : ℤ)
    → variation_of (scaled k today) (k *ℤ before) previous rate ≡ k *ℤ variation_of today before previous rate
unfolding variation_of
variation-scaled k today before previous rate =
    rw (earned-scaled k rate today) (out (sum_z (map (earned rate) today)) before (rate -ℤ previous))
  where
    out : (s b d : ℤ) → pos 250 *ℤ (k *ℤ s +ℤ (k *ℤ b) *ℤ d) ≡ k *ℤ (pos 250 *ℤ (s +ℤ b *ℤ d))
    out s b d = simp expand

-- the other side of each deal: k = -1
abbrev pub other_side : Deal → Deal
other_side d = record { lots = neg_ℤ d.lots; rate = d.rate }

minus_one : (x : ℤ) → negsuc 0 *ℤ x ≡ neg_ℤ x
minus_one x = parts₁ x (λ a. simp (a.is, ring) (omega zarith))

pub variation-other_side : (today : List Deal) (before previous rate : ℤ)
    → variation_of (map other_side today) (neg_ℤ before) previous rate ≡ neg_ℤ (variation_of today before previous rate)
variation-other_side today before previous rate =
    simp minus_one at (variation-scaled (negsuc 0) today before previous rate)

-- Document 01, Close: "buyer positive". What one side of a trade gains the other loses.
pub variation-cancels : (lots : ℕ) (traded previous rate : ℤ)
    → variation_of (bought lots traded ∷ []) (pos 0) previous rate
    +ℤ variation_of (sold lots traded ∷ []) (pos 0) previous rate
    ≡ pos 0
variation-cancels lots traded previous rate =
    let gain = variation_of (bought lots traded ∷ []) (pos 0) previous rate in
    ap (λ t. gain +ℤ t) (variation-other_side (bought lots traded ∷ []) (pos 0) previous rate) ∙ +ℤ_invr gain

-- ---- a ticket of m + n lots is one of m and one of n at the same rate
pub variation-split : (m n traded : ℤ) (today : List Deal) (before previous rate : ℤ)
    → variation_of (record { lots = m +ℤ n; rate = traded } ∷ today) before previous rate
    ≡ variation_of (record { lots = m; rate = traded } ∷ record { lots = n; rate = traded } ∷ today) before previous rate
unfolding variation_of sum_z
variation-split m n traded today before previous rate =
    rw (add-mulℤ m n (rate -ℤ traded), +ℤ_assoc (m *ℤ (rate -ℤ traded)) (n *ℤ (rate -ℤ traded)) (sum_z (map (earned rate) today)))

-- ---- positions of several accounts
abbrev pub together : Position → Position → Position
together p q = record { before = p.before +ℤ q.before; net = p.net +ℤ q.net; cost = p.cost +ℤ q.cost }

pub variation-together : (p q : Position) (m : Mark) → variation_at (together p q) m ≡ variation_at p m +ℤ variation_at q m
unfolding variation_at
variation-together p q m = simp expand

-- ---- nothing is booked
-- of a position that did not trade today, where the rate did not move
pub variation-still : (p : Position) (m : Mark) → p.net ≡ p.before → p.cost ≡ pos 0 → m.rate ≡ m.previous
    → variation_at p m ≡ pos 0
unfolding variation_at
variation-still p m still free same = rw (still, free, same) (none p.before m.previous)
  where
    none : (b r : ℤ) → pos 250 *ℤ (((b -ℤ b) *ℤ r -ℤ pos 0) +ℤ b *ℤ (r -ℤ r)) ≡ pos 0
    none b r = parts₂ b r (λ x y. simp (x.is, y.is, ring) (omega zarith))

-- of no position, whatever the rates
pub variation-flat : (m : Mark) → variation_at flat m ≡ pos 0
unfolding variation_at
variation-flat m = rw (zero-*ℤ m.rate, zero-*ℤ (m.rate -ℤ m.previous))
