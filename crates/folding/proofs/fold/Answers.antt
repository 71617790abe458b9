-- Below zero the code goes by `-1 - x`, which fits an i64 at the least number too.
use mathlib.Core.Path.{◌≡◌, refl, ap, ◌∙◌}
use Prim.Native.Nat.{◌+◌, ◌-◌, ◌*◌}
use native.Mathlib.Omega.{arith}
use lib.IntN.{ℤ, pos, negsuc, nat_abs, ◌-ℤ◌}
use lib.Signed.{mag, ◌<ℤ◌, ◌≤ℤ◌, nat_abs-le, clash_ℤ}
use mir.Syntax.{w64}
use mir.Val.{SFits, to_z, of_z}
use Rattle.whole.specs.Parts.{parts₁, ring, zarith}
use Rattle.whole.specs.Order.{pos-nonneg}
use Rattle.whole.specs.Machine.{back, back_is, fits-is}
use Rattle.whole.specs.Tests.{lt_yes, lt_no, as-u64}
use Rattle.folding.specs.Fold.{folded}
use Rattle.folding.proofs.fold.Goals as goal
use Rattle.folding.proofs.fold.Goals.{Else-x-lt0, Then-x-lt0}

-- ---- below zero
less_one : (x : ℤ) → x <ℤ pos 0 → negsuc 0 -ℤ x ≡ pos (nat_abs x - 1)
less_one x = parts₁ x (λ a. simp (a.is, ring) (omega zarith))

odd : (x : ℤ) → x <ℤ pos 0 → (nat_abs x - 1) * 2 + 1 ≡ folded x
unfolding folded
odd (pos n) h = clash_ℤ h (pos-nonneg n)
odd (negsuc n) h = omega arith

below-zero : (c : Then-x-lt0) → c.args.x <ℤ pos 0
below-zero c = lt_yes (back c.ranges.x) refl c.if-x-lt0.true

-- what `-1 - x` is, and that it fits
less : (c : Then-x-lt0) → let x = c.args.x in negsuc 0 -ℤ to_z w64 (of_z w64 x) ≡ pos (nat_abs x - 1)
less c =
    ap (λ t. negsuc 0 -ℤ t) (back c.ranges.x) ∙ less_one c.args.x (below-zero c)

less-fits : (c : Then-x-lt0) → SFits w64 (pos (nat_abs c.args.x - 1))
less-fits c =
    record { sfits = omega (arith, nat_abs-le c.args.x c.ranges.x.sfits) }

pub overflow_sub-result : goal.overflow_sub-result
overflow_sub-result c = fits-is (less c) (less-fits c)

pub overflow_cast-result : goal.overflow_cast-result
overflow_cast-result c = as-u64 (back_is (less c) (less-fits c)) (less-fits c) (pos-nonneg _)

pub overflow_mul-result : goal.overflow_mul-result
overflow_mul-result c = rw (back_is (less c) (less-fits c)) (omega (arith, (less-fits c).sfits))

pub overflow_add-result : goal.overflow_add-result
overflow_add-result c = rw (back_is (less c) (less-fits c)) (omega (arith, (less-fits c).sfits))

pub returns-then-x-lt0 : goal.returns-then-x-lt0
returns-then-x-lt0 c = ap (λ t. nat_abs t * 2 + 1) (back_is (less c) (less-fits c)) ∙ odd c.args.x (below-zero c)

-- ---- not below zero
same : (x : ℤ) → pos 0 ≤ℤ x → (nat_abs x ≡ mag x) × (nat_abs x * 2 ≡ folded x)
unfolding folded
same (pos n) h = (refl, omega arith)
same (negsuc n) h = absurd h.le

above_zero : (c : Else-x-lt0) → pos 0 ≤ℤ c.args.x
above_zero c = lt_no (back c.ranges.x) refl c.if-x-lt0.false

pub overflow_cast-result-else-x-lt0 : goal.overflow_cast-result-else-x-lt0
overflow_cast-result-else-x-lt0 c = as-u64 (back c.ranges.x) c.ranges.x (above_zero c)

pub overflow_mul-result-else-x-lt0 : goal.overflow_mul-result-else-x-lt0
overflow_mul-result-else-x-lt0 c =
    rw (back c.ranges.x) (omega (arith, same c.args.x (above_zero c), c.ranges.x.sfits))

pub returns-else-x-lt0 : goal.returns-else-x-lt0
returns-else-x-lt0 c =
    ap (λ t. nat_abs t * 2) (back c.ranges.x) ∙ (same c.args.x (above_zero c)).1
