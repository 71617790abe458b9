use native.Mathlib.Omega.{arith}
use Rattle.decimal.proofs.PutLaws.{put-more, numeral-length}
use Rattle.lines.proofs.parts.put_field.Goals as goal

pub returns : goal.returns
returns c =
    put-more (omega (arith, c.requires, numeral-length c.args.number)) c.put_word-next.ensures c.put_number.ensures
