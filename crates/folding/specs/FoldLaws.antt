-- What follows for folding: it loses nothing either way, and 64 bits hold what 64 bits with a sign hold.
use Rattle.std.specs.Prelude.{◌≡◌, refl, ◌↔◌, [], ◌∷◌, map, ℕ, ◌+◌, ◌*◌, ◌/◌, ◌%◌, ℤ, pos, negsuc}
use Rattle.std.proofs.Common.{ap, ◌∙◌, arith, eq-eqb, ne_eqb, Fits, SFits}
use Rattle.std.proofs.Math.Decide.{ℕ_discrete}
use Rattle.std.specs.Int.{w64}
use Rattle.folding.specs.Fold.{folded, unfolded}

-- ---- by whether the number is even

pub unfolded-even : (n : ℕ) → n % 2 ≡ 0 → unfolded n ≡ pos (n / 2)
unfolding unfolded
unfolded-even n e = rw (eq-eqb (n % 2) 0 e)

pub unfolded-odd : (n : ℕ) → (n % 2 ≡ 0 → ⊥) → unfolded n ≡ negsuc (n / 2)
unfolding unfolded
unfolded-odd n e = rw (ne_eqb (n % 2) 0 e)

-- ---- nothing is lost

pub unfolded-folded : (z : ℤ) → unfolded (folded z) ≡ z
unfolding folded
unfolded-folded (pos n) = let e : 2 * n / 2 ≡ n = omega arith in unfolded-even (2 * n) (omega arith) ∙ ap pos e
unfolded-folded (negsuc n) = let e : (2 * n + 1) / 2 ≡ n = omega arith in unfolded-odd (2 * n + 1) (omega arith) ∙ ap negsuc e

pub folded-unfolded : (n : ℕ) → folded (unfolded n) ≡ n
unfolding folded
folded-unfolded n = go (ℕ_discrete (n % 2) 0)
  where
    go : Dec (n % 2 ≡ 0) → folded (unfolded n) ≡ n
    go (yes e) = rw (unfolded-even n e) (omega arith)
    go (no e) = rw (unfolded-odd n e) (omega arith)

-- ---- 64 bits

pub folded_fits : (z : ℤ) → SFits w64 z ↔ Fits w64 (folded z)
unfolding folded
folded_fits (pos n) = (λ h. record { fits = omega (arith, h.sfits) }, λ h. record { sfits = omega (arith, h.fits) })
folded_fits (negsuc n) = (λ h. record { fits = omega (arith, h.sfits) }, λ h. record { sfits = omega (arith, h.fits) })

-- ---- "0, -1, 1, -2 become 0, 1, 2, 3"

pub folded-examples : map folded (pos 0 ∷ negsuc 0 ∷ pos 1 ∷ negsuc 1 ∷ []) ≡ 0 ∷ 1 ∷ 2 ∷ 3 ∷ []
unfolding folded
folded-examples = refl
