use mathlib.Core.List.{[], ◌∷◌}
use native.Mathlib.Omega.{arith}
use Rattle.decimal.specs.Decimal.{numeral}
use Rattle.lines.specs.Lines.{no}
use Rattle.lines.specs.LineLaws.{Begun, begun-with, room-left, line-ends}
use Rattle.lines.specs.LengthLaws.{refusal-length}
use Rattle.lines.proofs.answers.put_refused.Goals as goal
use Rattle.lines.proofs.answers.put_refused.Goals.{After-put_refusal-last, Start}

abbrev start : After-put_refusal-last → Start
start c = (goal.at.After-put_refusal-last c).Start

with_number : (c : After-put_refusal-last) →
    let a = (start c).args in
    Begun a.room.now a.at (numeral a.kind) (no ∷ numeral a.number ∷ []) 44 c.put_refusal-last.result c.put_refusal-last.new.room
with_number c =
    let s = start c in begun-with (omega (arith, s.requires)) (refusal-length s.args.kind s.args.number) c.put_refusal-last.ensures

pub put_end-requires : goal.put_end-requires
put_end-requires c = room-left (with_number (goal.at.put_end-requires c).After-put_refusal-last) 1 (omega (arith, (start (goal.at.put_end-requires c).After-put_refusal-last).requires))

pub returns : goal.returns
returns c =
    line-ends (with_number (goal.at.returns c).After-put_refusal-last) (omega (arith, (start (goal.at.returns c).After-put_refusal-last).requires)) c.put_end.ensures
