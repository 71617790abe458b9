-- The digits counted out are the number's text.
use native.Mathlib.Omega.{arith}
use mathlib.Core.Path.{sym, ap, ◌∙◌}
use Prim.Native.Nat.{◌≤◌}
use lib.ListN.{length}
use lib.Seq.{length-take-le}
use Rattle.decimal.proofs.DecimalLaws.{spelled}
use Rattle.decimal.proofs.Powers.{count_le}
use Rattle.decimal.proofs.digits_of.Goals as goal

pub put_digits-requires : goal.put_digits-requires
put_digits-requires c = omega (arith, count_le c.args.number c.digit_count-count.result 20 c.digit_count-count.ensures (omega arith) (omega arith))

pub returns : goal.returns
returns c =
    let n = c.args.number in
    let k = c.digit_count-count.result in
    let short : k ≤ 20 = count_le n k 20 c.digit_count-count.ensures (omega arith) (omega arith) in
    let text = c.put_digits.ensures.digits ∙ spelled k n (omega arith) c.digit_count-count.ensures in
    record {
      count = sym (length-take-le k _ (omega arith)) ∙ ap length text;
      at_most = short;
      digits = text;
      rest = c.put_digits.ensures.rest;
    }
