use native.Mathlib.Omega.{arith}
use Rattle.decimal.proofs.PutLaws.{put-more}
use Rattle.wording.proofs.values.put_clock.Goals as goal

pub returns : goal.returns
returns c =
    put-more (omega (arith, c.requires)) c.put_two-hours.ensures
    (put-more (omega (arith, c.requires)) c.put_word-colon.ensures
    (put-more (omega (arith, c.requires)) c.put_two-minutes.ensures
    (put-more (omega (arith, c.requires)) c.put_word-next.ensures c.put_two.ensures)))
