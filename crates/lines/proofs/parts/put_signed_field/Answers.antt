use native.Mathlib.Omega.{arith}
use Rattle.whole.specs.Machine.{back}
use Rattle.decimal.proofs.PutLaws.{put-more, signed-length}
use Rattle.lines.proofs.parts.put_signed_field.Goals as goal

pub returns : goal.returns
returns c =
    put-more (omega (arith, c.requires, signed-length c.args.number)) c.put_word-next.ensures
    (rw (back c.ranges.number) at c.put_signed.ensures)
