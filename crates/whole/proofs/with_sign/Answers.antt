-- Below zero the code makes -m of m - 1, which fits an i64 where m does not.
use mathlib.Core.Path.{◌≡◌, refl, sym, ap, ◌∙◌}
use Prim.Native.Nat.{ℕ, ◌-◌, ◌<◌, ◌^◌}
use native.Mathlib.Omega.{arith}
use lib.IntN.{ℤ, pos, negsuc, nat_abs, neg_ℤ, ◌-ℤ◌}
use lib.Signed.{mag, ◌<ℤ◌, ◌≤ℤ◌, nat_abs-le, clash_ℤ}
use mir.Syntax.{w64}
use mir.Val.{to_z}
use Rattle.whole.specs.Parts.{ring, zarith}
use Rattle.whole.specs.Order.{pos-nonneg}
use Rattle.whole.specs.Machine.{back, back_is, fits-is}
use Rattle.whole.specs.Tests.{lt_yes, lt_no, as-i64}
use Rattle.whole.specs.Round.{with_sign}
use Rattle.whole.proofs.with_sign.Goals as goal
use Rattle.whole.proofs.with_sign.Goals.{Else-m-eq0, Else-n-lt0, Then-n-lt0}

-- ---- n below zero
sign_below : (n : ℤ) (m : ℕ) → n <ℤ pos 0 → with_sign n m ≡ neg_ℤ (pos m)
unfolding with_sign
sign_below (pos n) m h = clash_ℤ h (pos-nonneg n)
sign_below (negsuc n) m h = refl

minus_one : (k : ℕ) → negsuc 0 -ℤ pos k ≡ negsuc k
minus_one k = simp ring (omega zarith)

negsuc-less : (m : ℕ) → (m ≡ 0 → ⊥) → negsuc (m - 1) ≡ neg_ℤ (pos m)
negsuc-less m h = simp ring (omega zarith)

below-zero : (c : Then-n-lt0) (m : ℕ) → with_sign c.args.n m ≡ neg_ℤ (pos m)
below-zero c m = let s = c.before in sign_below s.args.n m (lt_yes (back s.ranges.n) refl c.if-n-lt0.true)

less-fits : (c : Else-m-eq0) → c.args.m - 1 < 2 ^ 63
less-fits c =
    let s = c.before.before in
    omega (arith, c.if-m-eq0.false, s.requires, nat_abs-le s.args.n s.ranges.n.sfits)

minus : (c : Else-m-eq0) → let m = c.args.m in negsuc 0 -ℤ to_z w64 (m - 1) ≡ negsuc (m - 1)
minus c = ap (λ t. negsuc 0 -ℤ t) (as-i64 (less-fits c)) ∙ minus_one _

pub overflow_cast-result : goal.overflow_cast-result
overflow_cast-result c = record { sfits = less-fits c }

pub overflow_sub-result-else-m-eq0 : goal.overflow_sub-result-else-m-eq0
overflow_sub-result-else-m-eq0 c = fits-is (minus c) (record { sfits = less-fits c })

pub returns-then-m-eq0 : goal.returns-then-m-eq0
returns-then-m-eq0 c = sym (below-zero c.before _ ∙ ap (λ m. neg_ℤ (pos m)) c.if-m-eq0.true)

pub returns-else-m-eq0 : goal.returns-else-m-eq0
returns-else-m-eq0 c =
    back_is (minus c) (record { sfits = less-fits c })
    ∙ negsuc-less c.args.m c.if-m-eq0.false
    ∙ sym (below-zero c.before _)

-- ---- n not below zero
sign_above : (n : ℤ) (m : ℕ) → pos 0 ≤ℤ n → (with_sign n m ≡ pos m) × (nat_abs n ≡ mag n)
unfolding with_sign
sign_above (pos n) m h = (refl, refl)
sign_above (negsuc n) m h = absurd h.le

above_zero : (c : Else-n-lt0) → let a = c.args in
    (with_sign a.n a.m ≡ pos a.m) × (nat_abs a.n ≡ mag a.n)
above_zero c =
    let s = c.before in
    sign_above s.args.n s.args.m (lt_no (back s.ranges.n) refl c.if-n-lt0.false)

size_fits : (c : Else-n-lt0) → c.args.m < 2 ^ 63
size_fits c = let s = c.before in omega (arith, (above_zero c).1, s.requires, s.ranges.n.sfits)

pub overflow_cast-result-else-n-lt0 : goal.overflow_cast-result-else-n-lt0
overflow_cast-result-else-n-lt0 c = record { sfits = size_fits c }

pub returns-else-n-lt0 : goal.returns-else-n-lt0
returns-else-n-lt0 c = as-i64 (size_fits c) ∙ sym (above_zero c).0
