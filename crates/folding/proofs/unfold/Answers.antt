-- Half of the number fits an i64, and so does `-1 - half`.
use mathlib.Core.Path.{◌≡◌, sym, ap, ◌∙◌}
use Prim.Native.Nat.{ℕ, ◌/◌, ◌<◌, ◌^◌}
use native.Mathlib.Omega.{arith}
use lib.IntN.{pos, negsuc, ◌-ℤ◌}
use mir.Syntax.{w64}
use mir.Val.{to_z}
use Rattle.whole.specs.Parts.{ring, zarith}
use Rattle.whole.specs.Machine.{back_is, fits-is}
use Rattle.whole.specs.Tests.{as-i64}
use Rattle.folding.specs.FoldLaws.{unfolded-even, unfolded-odd}
use Rattle.folding.proofs.unfold.Goals as goal
use Rattle.folding.proofs.unfold.Goals.{Else-n-eq0, Start}

minus_one : (k : ℕ) → negsuc 0 -ℤ pos k ≡ negsuc k
minus_one k = simp ring (omega zarith)

half-fits : (s : Start) → s.args.n / 2 < 2 ^ 63
half-fits s = omega (arith, s.ranges.n.fits)

minus : (c : Else-n-eq0) → let n = c.args.n in negsuc 0 -ℤ to_z w64 (n / 2) ≡ negsuc (n / 2)
minus c = ap (λ t. negsuc 0 -ℤ t) (as-i64 (half-fits c.before)) ∙ minus_one _

pub overflow_sub-result : goal.overflow_sub-result
overflow_sub-result c = fits-is (minus c) (record { sfits = half-fits c.before })

pub returns-then-n-eq0 : goal.returns-then-n-eq0
returns-then-n-eq0 c = as-i64 (half-fits c.before) ∙ sym (unfolded-even c.args.n c.if-n-eq0.true)

pub returns-else-n-eq0 : goal.returns-else-n-eq0
returns-else-n-eq0 c = back_is (minus c) (record { sfits = half-fits c.before }) ∙ sym (unfolded-odd c.args.n c.if-n-eq0.false)
