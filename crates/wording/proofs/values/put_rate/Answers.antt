-- Below zero the sign is put first, and the size after it.
use mathlib.Core.Path.{◌≡◌, refl, ap, ◌∙◌}
use mathlib.Core.List.{[], ◌∷◌, ◌++◌}
use native.Mathlib.Nat.{not-suc-le-zero}
use native.Mathlib.Omega.{arith}
use lib.Dec.{ltb→lt}
use lib.IntN.{ℤ, pos, negsuc, nat_abs}
use lib.Signed.{◌<ℤ◌, ◌≤ℤ◌}
use Rattle.whole.specs.Machine.{back}
use Rattle.whole.specs.Tests.{lt_yes, lt_no}
use Rattle.decimal.specs.Decimal.{minus}
use Rattle.decimal.proofs.PutLaws.{put-more}
use Rattle.wording.specs.Text.{percent, rate_text}
use Rattle.wording.specs.TextLaws.{percent-length}
use Rattle.wording.proofs.values.put_rate.Goals as goal
use Rattle.wording.proofs.values.put_rate.Goals.{After-size-far}

text-below : (z : ℤ) → z <ℤ pos 0 → (minus ∷ []) ++ percent (nat_abs z) ≡ rate_text z
text-below (pos n) h = absurd (not-suc-le-zero (ltb→lt n 0 h.lt))
text-below (negsuc n) h = refl

text-above : (z : ℤ) → pos 0 ≤ℤ z → percent (nat_abs z) ≡ rate_text z
text-above (pos n) h = refl
text-above (negsuc n) h = absurd h.le

size_is : (c : After-size-far) → c.size-far.result ≡ nat_abs c.args.rate
size_is c = c.size-far.ensures ∙ ap nat_abs (back c.ranges.rate)

pub returns-then-rate-lt0 : goal.returns-then-rate-lt0
returns-then-rate-lt0 c =
    let below : (minus ∷ []) ++ percent c.size-far.result ≡ rate_text c.args.rate =
    ap (λ size. (minus ∷ []) ++ percent size) (size_is (goal.at.returns-then-rate-lt0 c).After-size-far)
    ∙ text-below c.args.rate (lt_yes (back c.ranges.rate) refl c.if-rate-lt0.true) in
    rw below at
    (put-more (omega (arith, c.requires, percent-length c.size-far.result)) c.put_word-next.ensures c.put_percent.ensures)

pub returns : goal.returns
returns c =
    let above : percent c.size-far.result ≡ rate_text c.args.rate =
    ap percent (size_is (goal.at.returns c).After-size-far) ∙ text-above c.args.rate (lt_no (back c.ranges.rate) refl c.if-rate-lt0.false) in
    rw above at c.put_percent-2.ensures
