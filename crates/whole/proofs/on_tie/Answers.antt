-- By the sign of the dividend, which the test tells.
use mathlib.Core.Path.{◌≡◌, refl, sym}
use Prim.Native.Nat.{ℕ, ◌+◌}
use lib.IntN.{ℤ, pos, negsuc}
use lib.Signed.{◌<ℤ◌, ◌≤ℤ◌, clash_ℤ}
use Rattle.whole.specs.Machine.{back}
use Rattle.whole.specs.Order.{pos-nonneg}
use Rattle.whole.specs.Round.{on_tie}
use Rattle.whole.specs.Tests.{lt_yes, lt_no}
use Rattle.whole.proofs.on_tie.Goals as goal

tie-below : (n : ℤ) (q : ℕ) → n <ℤ pos 0 → on_tie n q ≡ q
tie-below (pos n) q h = clash_ℤ h (pos-nonneg n)
tie-below (negsuc n) q h = refl

tie-above : (n : ℤ) (q : ℕ) → pos 0 ≤ℤ n → on_tie n q ≡ q + 1
tie-above (pos n) q h = refl
tie-above (negsuc n) q h = absurd h.le

pub returns-then-n-lt0 : goal.returns-then-n-lt0
returns-then-n-lt0 c =
    let s = c.before in
    sym (tie-below s.args.n s.args.q (lt_yes (back s.ranges.n) refl c.if-n-lt0.true))

pub returns-else-n-lt0 : goal.returns-else-n-lt0
returns-else-n-lt0 c =
    let s = c.before in
    sym (tie-above s.args.n s.args.q (lt_no (back s.ranges.n) refl c.if-n-lt0.false))
