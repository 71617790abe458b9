-- Below zero the sign is put first, and the size after it.
use mathlib.Core.Path.{◌≡◌, refl, ap, ◌∙◌}
use mathlib.Core.List.{[], ◌∷◌, ◌++◌}
use native.Mathlib.Nat.{not-suc-le-zero}
use native.Mathlib.Omega.{arith}
use lib.Dec.{ltb→lt}
use lib.IntN.{ℤ, pos, negsuc, nat_abs}
use lib.Signed.{◌<ℤ◌, ◌≤ℤ◌}
use Rattle.whole.specs.Machine.{back}
use Rattle.whole.specs.Tests.{lt_yes, lt_no}
use Rattle.decimal.specs.Decimal.{numeral, minus, signed_numeral}
use Rattle.decimal.proofs.PutLaws.{put-more, numeral-length}
use Rattle.decimal.proofs.put_signed.Goals as goal
use Rattle.decimal.proofs.put_signed.Goals.{After-size-size}

text-below : (z : ℤ) → z <ℤ pos 0 → (minus ∷ []) ++ numeral (nat_abs z) ≡ signed_numeral z
text-below (pos n) h = absurd (not-suc-le-zero (ltb→lt n 0 h.lt))
text-below (negsuc n) h = refl

text-above : (z : ℤ) → pos 0 ≤ℤ z → numeral (nat_abs z) ≡ signed_numeral z
text-above (pos n) h = refl
text-above (negsuc n) h = absurd h.le

size_is : (c : After-size-size) → c.size-size.result ≡ nat_abs c.args.number
size_is c = c.size-size.ensures ∙ ap nat_abs (back c.ranges.number)

pub returns-then-number-lt0 : goal.returns-then-number-lt0
returns-then-number-lt0 c =
    let below : let z = c.args.number in (minus ∷ []) ++ numeral c.size-size.result ≡ signed_numeral z =
    ap (λ size. (minus ∷ []) ++ numeral size) (size_is (goal.at.returns-then-number-lt0 c).After-size-size)
    ∙ text-below c.args.number (lt_yes (back c.ranges.number) refl c.if-number-lt0.true) in
    rw below at
    (put-more (omega (arith, numeral-length c.size-size.result)) c.put_word-next.ensures c.put_number.ensures)

pub returns : goal.returns
returns c =
    let above : let z = c.args.number in numeral c.size-size.result ≡ signed_numeral z =
    ap numeral (size_is (goal.at.returns c).After-size-size) ∙ text-above c.args.number (lt_no (back c.ranges.number) refl c.if-number-lt0.false) in
    rw above at c.put_number-2.ensures
