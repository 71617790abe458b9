-- What `halfway` is exactly, before the one rounding at the end, and that equal quotients round alike.
use Rattle.std.specs.Prelude.{◌≡◌, ℕ, ◌*◌, ◌≤◌, ◌<◌, ℤ, pos, ◌+ℤ◌, ◌*ℤ◌}
use Rattle.std.proofs.Common.{◌∙◌, ap₂, mul-le-mul, arith}
use Rattle.std.proofs.Math.IntN.{*ℤ_comm}
use Rattle.whole.specs.Expand.{*ℤ-left, expand}
use Rattle.whole.specs.Parts.{parts₃, ring, zarith}
use Rattle.whole.specs.Round.{on_tie}
use Rattle.whole.proofs.RoundLaws.{on_tie-scaled, rounded-same}
use Rattle.whole.specs.Within.{lit, widen, within-+, within-*}
use Rattle.tallies.specs.Bounds.{Fair}
use Rattle.tallies.specs.declared.Mean.{Mean}
use Rattle.rates.specs.Rules.{halfway, nearest}

-- K times the mean is x
abbrev pub Times : ℕ → Mean → ℤ → Type 0
Times K m x = pos K *ℤ m.sum ≡ x *ℤ pos m.weight

-- what a mean is: its weight times it is its sum
pub mean-times : (m : Mean) → Times m.weight m m.sum
mean-times m = *ℤ_comm (pos m.weight) m.sum

-- At every scale at which two means are whole, twice their half is their sum.
pub halfway-exact : (K : ℕ) (a b : Mean) (x y : ℤ) → Times K a x → Times K b y → Times (2 * K) (halfway a b) (x +ℤ y)
unfolding halfway
halfway-exact K a b x y e f = products (pos K) a.sum b.sum (pos a.weight) (pos b.weight) e f
  where
    gathered : (k A B a b : ℤ) → (pos 2 *ℤ k) *ℤ (A *ℤ b +ℤ B *ℤ a) ≡ pos 2 *ℤ ((k *ℤ A) *ℤ b +ℤ (k *ℤ B) *ℤ a)
    gathered k A B a b = simp expand

    spread : (a b : ℤ) → pos 2 *ℤ ((x *ℤ a) *ℤ b +ℤ (y *ℤ b) *ℤ a) ≡ (x +ℤ y) *ℤ (pos 2 *ℤ (a *ℤ b))
    spread a b = simp expand

    products : (k A B a b : ℤ) → k *ℤ A ≡ x *ℤ a → k *ℤ B ≡ y *ℤ b
        → (pos 2 *ℤ k) *ℤ (A *ℤ b +ℤ B *ℤ a) ≡ (x +ℤ y) *ℤ (pos 2 *ℤ (a *ℤ b))
    products k A B a b e f =
        gathered k A B a b ∙ ap₂ (λ s t. pos 2 *ℤ (s *ℤ b +ℤ t *ℤ a)) e f ∙ spread a b

-- The same with both sums multiplied out: the quotient n / d has 2 n (a b) = (A b + B a) d.
pub halfway-crossed : (a b : Mean) → let m = halfway a b in
    pos 2 *ℤ (m.sum *ℤ pos (a.weight * b.weight))
    ≡ (a.sum *ℤ pos b.weight +ℤ b.sum *ℤ pos a.weight) *ℤ pos m.weight
unfolding halfway
halfway-crossed a b =
    *ℤ-left (pos 2) (a.sum *ℤ pos b.weight +ℤ b.sum *ℤ pos a.weight) (pos (a.weight * b.weight))

-- Its weight times a number: what each mean's weight times the number adds to its sum.
pub halfway-times : (a b x : ℤ) → (pos 2 *ℤ (a *ℤ b)) *ℤ x ≡ (a *ℤ x) *ℤ b +ℤ (b *ℤ x) *ℤ a
halfway-times a b x = parts₃ a b x (λ p q r. simp (p.is, q.is, r.is, ring) (omega zarith))

pub nearest-same : (a b : Mean) → 0 < a.weight → 0 < b.weight → a.sum *ℤ pos b.weight ≡ b.sum *ℤ pos a.weight
    → nearest a ≡ nearest b
nearest-same a b h k e = rounded-same on_tie on_tie-scaled a.sum b.sum a.weight b.weight h k e

-- ---- its weight and its size
pub fair-halfway : {A B : ℕ} (a b : Mean) → Fair A a → Fair B b → Fair (2 * (A * B)) (halfway a b)
unfolding halfway
fair-halfway {A} {B} a b f g = record {
  weight = omega (arith, mul-le-mul f.weight g.weight);
  sum = widen (within-+ (within-* f.sum (lit (pos b.weight))) (within-* g.sum (lit (pos a.weight)))) (omega arith);
}

pub halfway-weighs : (a b : Mean) → 0 < a.weight → 0 < b.weight → 0 < (halfway a b).weight
unfolding halfway
halfway-weighs a b h k = let g : 1 * 1 ≤ a.weight * b.weight = mul-le-mul h k in omega arith
