use native.Mathlib.Omega.{arith}
use Rattle.decimal.proofs.PutLaws.{put-more, numeral-length}
use Rattle.lines.specs.Lines.{spaced}
use Rattle.lines.proofs.answers.put_done.Goals as goal

pub put_word-requires : goal.put_word-requires
put_word-requires c =
    let kind = c.before.before.before.before in
    omega (arith, c.requires, c.put_number-first.ensures.place, c.put_number-first.auto.room, numeral-length c.args.kind)

pub returns : goal.returns
unfolding spaced
returns c =
    let word = c.before.before in
    let kind = word.before.before.before.before.before in
    put-more (omega (arith, c.requires, numeral-length c.args.kind)) c.put_number-first.ensures c.put_word.ensures
