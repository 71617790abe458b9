-- The larger and the smaller of two whole numbers. Document 01 says `max` and `the smaller of`.
use Rattle.std.specs.Prelude.{◌≡◌, refl, Bool, true, false, not, cond, ℕ, ◌+◌, min, max, T, ℤ, ◌≤ℤ◌, ◌<ℤ◌}
use Rattle.std.proofs.Common.{sym}
use Rattle.std.specs.Int.{int_max, int_min}
use Rattle.std.specs.Int.Signed.{lt_z, lt_z_yes, lt_z_no, clash_ℤ}
use Rattle.whole.specs.Order.{≤ℤ-antisym, <ℤ-weaken}
use Rattle.whole.specs.Parts.{◌⊖◌, ⊖-le, ⊖-lt, parts₂, ring, zarith}
use Rattle.whole.specs.Within.{Within, zbound}

-- Shut, so that simp sees the call.
unfoldable pub larger : ℤ → ℤ → ℤ
larger a b = cond (lt_z a b) b a

unfoldable pub smaller : ℤ → ℤ → ℤ
smaller a b = cond (lt_z a b) a b

-- ---- of differences, so that the bridge goes through: `ring-larger` in the place of `ring`
cond_ind : (P : ℤ → Type 0) (t : Bool) (a b : ℤ) → (T t → P a) → (T (not t) → P b) → P (cond t a b)
cond_ind P true a b f g = f tt
cond_ind P false a b f g = g tt

pub larger-⊖ : (a b c d : ℕ) → larger (a ⊖ b) (c ⊖ d) ≡ max (a + d) (c + b) ⊖ (b + d)
unfolding larger
larger-⊖ a b c d =
    cond_ind (λ z. z ≡ max (a + d) (c + b) ⊖ (b + d)) (lt_z (a ⊖ b) (c ⊖ d)) (c ⊖ d) (a ⊖ b)
    (λ t. let h = ⊖-lt a b c d (lt_z_yes t) in omega zarith)
    (λ t. let h = ⊖-le c d a b (lt_z_no t) in omega zarith)

pub smaller-⊖ : (a b c d : ℕ) → smaller (a ⊖ b) (c ⊖ d) ≡ min (a + d) (c + b) ⊖ (b + d)
unfolding smaller
smaller-⊖ a b c d =
    cond_ind (λ z. z ≡ min (a + d) (c + b) ⊖ (b + d)) (lt_z (a ⊖ b) (c ⊖ d)) (a ⊖ b) (c ⊖ d)
    (λ t. let h = ⊖-lt a b c d (lt_z_yes t) in omega zarith)
    (λ t. let h = ⊖-le c d a b (lt_z_no t) in omega zarith)

pub ruleset ring-larger = (ring, larger-⊖, smaller-⊖)

-- ---- above both, below both, and no larger in size than the two
pub larger-above : (x y : ℤ) → (x ≤ℤ larger x y) × (y ≤ℤ larger x y)
larger-above x y = parts₂ x y (λ a b. simp (a.is, b.is, ring-larger) (omega zarith))

pub smaller-below : (x y : ℤ) → (smaller x y ≤ℤ x) × (smaller x y ≤ℤ y)
smaller-below x y = parts₂ x y (λ a b. simp (a.is, b.is, ring-larger) (omega zarith))

pub larger-within : {B : ℕ} (x y : ℤ) → Within B x → Within B y → Within B (larger x y)
larger-within x y h k = parts₂ x y (λ a b. simp (a.is, b.is, ring-larger) (omega zbound))

pub smaller-within : {B : ℕ} (x y : ℤ) → Within B x → Within B y → Within B (smaller x y)
smaller-within x y h k = parts₂ x y (λ a b. simp (a.is, b.is, ring-larger) (omega zbound))

-- ---- as std has them
-- Which of two equal numbers is taken makes no difference.
two_tests : (x y : ℤ) (s t : Bool) → (T s → x <ℤ y) → (T (not s) → y ≤ℤ x) → (T t → y <ℤ x) → (T (not t) → x ≤ℤ y)
    → (cond s y x ≡ cond t x y) × (cond s x y ≡ cond t y x)
two_tests x y true true p _ q _ = clash_ℤ (p tt) (<ℤ-weaken (q tt))
two_tests x y true false _ _ _ _ = (refl, refl)
two_tests x y false true _ _ _ _ = (refl, refl)
two_tests x y false false _ p _ q = let e = ≤ℤ-antisym (p tt) (q tt) in (sym e, e)

pub larger_is : (x y : ℤ) → larger x y ≡ int_max x y
unfolding larger
larger_is x y = (two_tests x y (lt_z x y) (lt_z y x) lt_z_yes lt_z_no lt_z_yes lt_z_no).0

pub smaller_is : (x y : ℤ) → smaller x y ≡ int_min x y
unfolding smaller
smaller_is x y = (two_tests x y (lt_z x y) (lt_z y x) lt_z_yes lt_z_no lt_z_yes lt_z_no).1
