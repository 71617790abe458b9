-- The whole per cents are put first, and take up twenty places at most.
use Prim.Native.Nat.{◌/◌}
use native.Mathlib.Omega.{arith}
use Rattle.decimal.proofs.PutLaws.{put-more, numeral-length}
use Rattle.wording.proofs.values.put_percent.Goals as goal

pub put_word-point-requires : goal.put_word-point-requires
put_word-point-requires c = omega (arith, c.put_number-whole.ensures.place, numeral-length (c.args.size / 10000))

pub put_four-last-requires : goal.put_four-last-requires
put_four-last-requires c = omega (arith, c.put_number-whole.ensures.place, numeral-length (c.args.size / 10000))

pub put_word-requires : goal.put_word-requires
put_word-requires c = omega (arith, c.put_number-whole.ensures.place, numeral-length (c.args.size / 10000))

pub returns : goal.returns
returns c =
    let long = numeral-length (c.args.size / 10000) in
    put-more (omega (arith, c.requires, long)) c.put_number-whole.ensures
    (put-more (omega (arith, c.requires, c.put_number-whole.ensures.place, long)) c.put_word-point.ensures
    (put-more (omega (arith, c.requires, c.put_number-whole.ensures.place, long)) c.put_four-last.ensures c.put_word.ensures))
