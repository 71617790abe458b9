-- The division goes toward zero. Above zero a rest makes up one more, and below zero there is nothing to add.
use mathlib.Core.Path.{◌≡◌, refl, ap, ◌∙◌}
use Prim.Native.Nat.{ℕ, suc, ◌%◌}
use native.Mathlib.Omega.{arith}
use lib.Dec.{lit<}
use lib.IntN.{ℤ, pos, negsuc, neg_ℤ, ◌+ℤ◌}
use lib.Signed.{quot_z, rem_z, ◌<ℤ◌, ◌≤ℤ◌, nat_abs-le}
use mir.Syntax.{w64}
use mir.Val.{to_z, of_z}
use Rattle.whole.specs.Parts.{ring, zarith}
use Rattle.whole.specs.Within.{lit}
use Rattle.whole.specs.Machine.{Reads, held, now, kept, fits, add, back, nat_abs-quot, nat_abs-rem}
use Rattle.whole.specs.Tests.{lt_yes, lt_no}
use Rattle.whole.specs.Round.{hundredth_up}
use Rattle.whole.proofs.hundredth_up.Goals as goal
use Rattle.whole.proofs.hundredth_up.Goals.{Start}

-- ---- what the quotient and the rest come to
with_rest : (x : ℤ) → pos 0 <ℤ rem_z x (pos 100) → quot_z x (pos 100) +ℤ pos 1 ≡ hundredth_up x
unfolding hundredth_up
with_rest (pos n) h = simp ring (omega zarith)
with_rest (negsuc n) h = absurd (none (suc n % 100) h)
  where
    none : (k : ℕ) → pos 0 <ℤ neg_ℤ (pos k) → ⊥
    none k = simp ring (omega zarith)

without-rest : (x : ℤ) → rem_z x (pos 100) ≤ℤ pos 0 → quot_z x (pos 100) ≡ hundredth_up x
unfolding hundredth_up
without-rest (pos n) h = simp ring (omega zarith)
without-rest (negsuc n) h = refl

-- ---- the code's values
-- The quotient's size is at most 2^63 / 100.
quotient : (s : Start) → let x = s.args.x in
    Reads 92233720368547758 (quot_z (to_z w64 (of_z w64 x)) (pos 100)) (quot_z x (pos 100))
quotient s =
    let x = s.args.x in
    held (ap (λ t. quot_z t (pos 100)) (back s.ranges.x))
    (record { size = omega (arith, nat_abs-quot x (pos 100), nat_abs-le x s.ranges.x.sfits) })

rest : (s : Start) → let x = s.args.x in
    Reads 99 (rem_z (to_z w64 (of_z w64 x)) (pos 100)) (rem_z x (pos 100))
rest s =
    let x = s.args.x in
    held (ap (λ t. rem_z t (pos 100)) (back s.ranges.x)) (record { size = omega (arith, nat_abs-rem x (pos 100)) })

pub nonzero_div-q : goal.nonzero_div-q
nonzero_div-q c = (lit< tt, fits (quotient c) tt)

pub nonzero_rem-x : goal.nonzero_rem-x
nonzero_rem-x c = (lit< tt, fits (quotient c) tt)

pub overflow_add-result : goal.overflow_add-result
overflow_add-result c = fits (add (kept (quotient c.before) tt) (now (lit (pos 1)))) tt

pub returns-then-x-gt0 : goal.returns-then-x-gt0
returns-then-x-gt0 c =
    let s = c.before in
    (kept (add (kept (quotient s) tt) (now (lit (pos 1)))) tt).eq
    ∙ with_rest s.args.x (lt_yes refl (kept (rest s) tt).eq c.if-x-gt0.true)

pub returns-else-x-gt0 : goal.returns-else-x-gt0
returns-else-x-gt0 c =
    let s = c.before in
    (kept (quotient s) tt).eq
    ∙ without-rest s.args.x (lt_no refl (kept (rest s) tt).eq c.if-x-gt0.false)
