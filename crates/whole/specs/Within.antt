-- Bounds on the size of a whole number.
-- `Within B z` is |z| ≤ B, and `Each B xs` says it of each element of a list.
-- They are records, so that B and z are found from a hypothesis. omega reads their fields.
use Rattle.std.specs.Prelude.{◌≡◌, refl, List, ℕ, zero, suc, ◌+◌, ◌*◌, ◌≤◌, min, max, T, leb, ℤ, pos, negsuc, neg_ℤ, nat_abs, ◌+ℤ◌, ◌-ℤ◌, ◌*ℤ◌, get_or, ◌≤ℤ◌}
use Rattle.std.proofs.Common.{le_refl, le_trans, mul-le-mul_left, mul-le-mul_right, arith, leb→le}
use Rattle.whole.specs.Parts.{◌⊖◌, nat_abs-⊖, parts₁, parts₂, ring, zarith}

pub record Within (B : ℕ) (z : ℤ) : Type 0 where
  pub size : nat_abs z ≤ B

-- Past the end an element is 0, so that an index needs no bound.
pub record Each (B : ℕ) (xs : List ℤ) : Type 0 where
  pub at : (i : ℕ) → Within B (get_or xs i (pos 0))

-- ---- sizes
pub nat_abs-neg-pos : (n : ℕ) → nat_abs (neg_ℤ (pos n)) ≡ n
nat_abs-neg-pos zero = refl
nat_abs-neg-pos (suc n) = refl

pub nat_abs-neg : (a : ℤ) → nat_abs (neg_ℤ a) ≡ nat_abs a
nat_abs-neg a = parts₁ a (λ x. simp (x.is, ring) (omega zarith))

pub nat_abs-+ : (a b : ℤ) → nat_abs (a +ℤ b) ≤ nat_abs a + nat_abs b
nat_abs-+ a b = parts₂ a b (λ x y. simp (x.is, y.is, ring) (omega zarith))

pub nat_abs-* : (a b : ℤ) → nat_abs (a *ℤ b) ≡ nat_abs a * nat_abs b
nat_abs-* (pos a) (pos b) = refl
nat_abs-* (pos a) (negsuc b) = nat_abs-neg-pos (a * suc b)
nat_abs-* (negsuc a) (pos b) = nat_abs-neg-pos (suc a * b)
nat_abs-* (negsuc a) (negsuc b) = refl

-- ---- the bound of a result, from those of the operands
module _ {A B : ℕ} {x y : ℤ} (h : Within A x) (k : Within B y) where
  pub within-+ : Within (A + B) (x +ℤ y)
  within-+ = record { size = omega (arith, nat_abs-+ x y) }

  pub within-- : Within (A + B) (x -ℤ y)
  within-- = record { size = omega (arith, nat_abs-+ x (neg_ℤ y), nat_abs-neg y) }

  pub within-* : Within (A * B) (x *ℤ y)
  within-* = record {
    size = omega
        (arith, nat_abs-* x y, mul-le-mul_left (nat_abs x) k.size, mul-le-mul_right B h.size);
  }

pub within-neg : {A : ℕ} {x : ℤ} → Within A x → Within A (neg_ℤ x)
within-neg {x = x} h = record { size = omega (arith, nat_abs-neg x) }

-- a literal: `lit (pos 250)`
pub lit : (z : ℤ) → Within (nat_abs z) z
lit z = record { size = le_refl (nat_abs z) }

-- a number between 0 and B
pub within-pos : {B : ℕ} {z : ℤ} → pos 0 ≤ℤ z → z ≤ℤ pos B → Within B z
within-pos {B} {z} h k = record { size = go z h k }
  where
    go : (z : ℤ) → pos 0 ≤ℤ z → z ≤ℤ pos B → nat_abs z ≤ B
    go z = parts₁ z (λ x. simp (x.is, ring) (omega zarith))

pub within-most : {B : ℕ} (z : ℤ) → Within B z → z ≤ℤ pos B
within-most z h = parts₁ z (λ x. simp (x.is, ring) (omega zarith))

-- ---- a wider bound: by a fact, or by a test that computes, `wider h tt`
pub widen : {A B : ℕ} {x : ℤ} → Within A x → A ≤ B → Within B x
widen h k = record { size = le_trans h.size k }

pub wider : {A B : ℕ} {x : ℤ} → Within A x → T (leb A B) → Within B x
wider {A} {B} h t = widen h (leb→le A B t)

-- ---- for omega: a bound as the goal. As a hypothesis omega reads it unasked.
pub within-⊖ : (k a b : ℕ) → max a b ≤ min a b + k → Within k (a ⊖ b)
within-⊖ k a b h = record { size = rw nat_abs-⊖ (omega arith) }

pub ruleset zbound = (zarith, within-⊖)
