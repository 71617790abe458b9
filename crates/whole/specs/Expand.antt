-- Identities with too many products for omega, which takes at most 64 unknowns.
-- `simp expand` multiplies out and sorts. What is left is linear in whole products.
-- Where terms cancel, take the parts of each product as simp left it:
-- `simp expand (parts₂ (a *ℤ c) (b *ℤ c) (λ x y. simp (x.is, y.is, ring) (omega zarith)))`.
use Rattle.std.specs.Prelude.{◌≡◌, ℤ, neg_ℤ, ◌+ℤ◌, ◌*ℤ◌}
use Rattle.std.proofs.Math.IntN.{+ℤ_assoc, +ℤ_comm, *ℤ_comm, neg_ℤ-+ℤ, neg_ℤ-neg_ℤ}
use Rattle.whole.specs.Ring.{add-mulℤ, mul-addℤ}
use Rattle.whole.specs.Parts.{parts₂, parts₃, ring, zarith}

pub *ℤ-assoc : (a b c : ℤ) → (a *ℤ b) *ℤ c ≡ a *ℤ (b *ℤ c)
*ℤ-assoc a b c = parts₃ a b c (λ x y z. simp (x.is, y.is, z.is, ring) (omega zarith))

pub *ℤ-left : (a b c : ℤ) → a *ℤ (b *ℤ c) ≡ b *ℤ (a *ℤ c)
*ℤ-left a b c = parts₃ a b c (λ x y z. simp (x.is, y.is, z.is, ring) (omega zarith))

pub +ℤ-left : (a b c : ℤ) → a +ℤ (b +ℤ c) ≡ b +ℤ (a +ℤ c)
+ℤ-left a b c = parts₃ a b c (λ x y z. simp (x.is, y.is, z.is, ring) (omega zarith))

pub neg-*ℤ : (a b : ℤ) → neg_ℤ a *ℤ b ≡ neg_ℤ (a *ℤ b)
neg-*ℤ a b = parts₂ a b (λ x y. simp (x.is, y.is, ring) (omega zarith))

pub *ℤ-neg : (a b : ℤ) → a *ℤ neg_ℤ b ≡ neg_ℤ (a *ℤ b)
*ℤ-neg a b = parts₂ a b (λ x y. simp (x.is, y.is, ring) (omega zarith))

pub ruleset expand = (
  add-mulℤ,
  mul-addℤ,
  *ℤ-assoc,
  *ℤ_comm,
  *ℤ-left,
  +ℤ_assoc,
  +ℤ_comm,
  +ℤ-left,
  neg-*ℤ,
  *ℤ-neg,
  neg_ℤ-+ℤ,
  neg_ℤ-neg_ℤ,
)
