-- What a close books on positions within bounds is bounded by them, and what it leaves is within them.
use Rattle.std.specs.Prelude.{◌≡◌, refl, List, [], ◌∷◌, ℕ, suc, ◌+◌, ◌*◌, ◌≤◌, ℤ, pos, nat_abs, ◌+ℤ◌, ◌-ℤ◌, ◌*ℤ◌, length, get_or}
use Rattle.std.proofs.Common.{sym, ap, subst, le_trans, arith}
use Rattle.lists.specs.Keep.{cond-keeps}
use Rattle.lists.specs.Zipped.{zipped, zipped-length, zipped-keeps}
use Rattle.whole.specs.Parts.{parts₄, ring, zarith}
use Rattle.whole.specs.Expand.{expand}
use Rattle.whole.specs.Within.{Within, Each, within--, within-*, widen, lit}
use Rattle.whole.specs.Sizes.{sizes, sum-sizes}
use Rattle.positions.specs.Deals.{overnight, flat}
use Rattle.positions.specs.Bounds.{Priced, no_mark, PricedAll, costs, Kept, day_most}
use Rattle.positions.specs.declared.Position.{Position}
use Rattle.positions.specs.declared.Mark.{Mark}
use Rattle.positions.specs.BoundLaws.{zero-within, modest-at}
use Rattle.booking.specs.Variation.{variation_at, variation}
use Rattle.booking.specs.Carried.{carried, all_carried}

-- ---- variation
-- The net at the new rate, less the net before today at the old one, less today's cost.
variation-is : (p : Position) (m : Mark)
    → variation_at p m ≡ pos 250 *ℤ ((p.net *ℤ m.rate -ℤ p.before *ℤ m.previous) -ℤ p.cost)
unfolding variation_at
variation-is p m = ap (λ z. pos 250 *ℤ z) (terms p.net p.before p.cost m.rate m.previous)
  where
    terms : (n b c r q : ℤ) → ((n -ℤ b) *ℤ r -ℤ c) +ℤ b *ℤ (r -ℤ q) ≡ (n *ℤ r -ℤ b *ℤ q) -ℤ c
    terms n b c r q =
        simp expand
        (parts₄ (n *ℤ r) (b *ℤ r) (b *ℤ q) c (λ w x y z. simp (w.is, x.is, y.is, z.is, ring) (omega zarith)))

pub variation-at-within : {c : ℕ} {p : Position} {m : Mark}
    → Within 20000 p.before → Within 20000 p.net → Within c p.cost → Priced m
    → Within (250 * (4000000000 + c)) (variation_at p m)
variation-at-within {c} {p} {m} b n k r =
    subst (Within (250 * (4000000000 + c))) (sym (variation-is p m))
    (within-* (lit (pos 250)) (within-- (within-- (within-* n r.rate) (within-* b r.previous)) k))

pub variation-each : {ps : List Position} {marks : List Mark} → Kept 10000 ps → PricedAll marks
    → Each (250 * (4000000000 + 1000000000000)) (zipped variation_at ps marks)
variation-each {ps} {marks} k r = record {
  at = zipped-keeps variation_at (Within (250 * (4000000000 + 1000000000000))) (pos 0) flat no_mark ps marks zero-within
      (λ i. let p = modest-at k i in variation-at-within p.before p.net p.cost (r.at i));
}

-- by the costs that the account has itself, so that the sum over accounts is bounded by all costs
pub variation-most : {trades : ℕ} {ps : List Position} {marks : List Mark} → Kept trades ps → PricedAll marks
    → Within (day_most (costs ps)) (variation ps marks)
unfolding variation zipped sizes
variation-most {trades} {ps} {marks} k r = record {
  size = le_trans (sum-sizes (zipped variation_at ps marks))
      (omega (arith, all ps marks k.befores k.nets.at r.at, k.nets.six));
}
  where
    all : (ps : List Position) (marks : List Mark)
        → ((i : ℕ) → Within 20000 (get_or ps i flat).before) → ((i : ℕ) → Within 20000 (get_or ps i flat).net)
        → ((i : ℕ) → Priced (get_or marks i no_mark))
        → sizes (zipped variation_at ps marks) ≤ 250 * (costs ps + length ps * 4000000000)
    all [] marks b n r = omega arith
    all (p ∷ ps) [] b n r = omega arith
    all (p ∷ ps) (m ∷ marks) b n r =
        let here = variation-at-within {c = nat_abs p.cost} {p = p} {m = m} (b 0) (n 0) (lit p.cost) (r 0) in
        omega (arith, here.size, all ps marks (λ i. b (suc i)) (λ i. n (suc i)) (λ i. r (suc i)))

pub variation-within : {trades : ℕ} {ps : List Position} {marks : List Mark} → Kept trades ps → PricedAll marks
    → Within (day_most (trades * 100000000)) (variation ps marks)
variation-within k r = widen (variation-most k r) (omega (arith, k.costs))

-- ---- carried
-- Nothing of today is carried over, and nothing of a contract that ends.
pub carried-kept : {trades : ℕ} {ps : List Position} {marks : List Mark} → Kept trades ps → PricedAll marks
    → Kept 0 (all_carried ps marks)
unfolding all_carried zipped sizes
carried-kept {trades} {ps} {marks} k r = record {
  nets = record {
    six = zipped-length carried ps marks k.nets.six r.six;
    at = each (λ p. p.net) zero-within (λ p h. h);
  };
  befores = each (λ p. p.before) zero-within (λ p h. h);
  costs = omega (arith, untouched ps marks);
}
  where
    each : (f : Position → ℤ) → Within 20000 (f flat)
        → ((p : Position) → Within 20000 p.net → Within 20000 (f (overnight p.net)))
        → (i : ℕ) → Within 20000 (f (get_or (zipped carried ps marks) i flat))
    each f z h = zipped-keeps carried (λ p. Within 20000 (f p)) flat flat no_mark ps marks z
        (λ i. cond-keeps (λ p. Within 20000 (f p)) (get_or marks i no_mark).ending flat (overnight (get_or ps i flat).net)
        (λ e. z)
        (λ e. h (get_or ps i flat) (k.nets.at i)))

    untouched : (ps : List Position) (marks : List Mark) → costs (zipped carried ps marks) ≡ 0
    untouched [] marks = refl
    untouched (p ∷ ps) [] = refl
    untouched (p ∷ ps) (m ∷ marks) =
        let here : nat_abs (carried p m).cost ≡ 0 =
        cond-keeps (λ q. nat_abs q.cost ≡ 0) m.ending flat (overnight p.net) (λ e. refl) (λ e. refl) in
        omega (arith, here, untouched ps marks)
