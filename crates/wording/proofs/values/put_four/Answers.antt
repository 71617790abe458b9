use native.Mathlib.Omega.{arith}
use Rattle.decimal.proofs.PutLaws.{put-more}
use Rattle.wording.proofs.values.put_four.Goals as goal

pub returns : goal.returns
returns c =
    put-more (omega (arith, c.requires)) c.put_two-next.ensures c.put_two.ensures
