use mathlib.Core.List.{[], ◌∷◌}
use native.Mathlib.Omega.{arith}
use Rattle.decimal.specs.Decimal.{numeral}
use Rattle.lines.specs.Lines.{bad}
use Rattle.lines.specs.LineLaws.{Begun, begun, room-left, number_more, line-ends}
use Rattle.lines.proofs.answers.put_bad.Goals as goal
use Rattle.lines.proofs.answers.put_bad.Goals.{After-put_field-last, After-put_word-next, Start}

abbrev start : After-put_word-next → Start
start c = (goal.at.After-put_word-next c).Start

with-word : (c : After-put_word-next) →
    let a = (start c).args in Begun a.room.now a.at bad [] 3 c.put_word-next.result c.put_word-next.new.room
with-word c = begun (omega (arith, (start c).requires)) (omega arith) c.put_word-next.ensures

with-place : (c : After-put_field-last) →
    let a = (start (goal.at.After-put_field-last c).After-put_word-next).args in
    Begun a.room.now a.at bad (numeral a.place ∷ []) 24 c.put_field-last.result c.put_field-last.new.room
with-place c =
    number_more (with-word (goal.at.After-put_field-last c).After-put_word-next) (start (goal.at.After-put_field-last c).After-put_word-next).args.place (omega (arith, (start (goal.at.After-put_field-last c).After-put_word-next).requires)) c.put_field-last.ensures

pub put_end-requires : goal.put_end-requires
put_end-requires c =
    room-left (with-place (goal.at.put_end-requires c).After-put_field-last) 1 (omega (arith, (start (goal.at.put_end-requires c).After-put_word-next).requires))

pub returns : goal.returns
returns c =
    line-ends (with-place (goal.at.returns c).After-put_field-last) (omega (arith, (start (goal.at.returns c).After-put_word-next).requires)) c.put_end.ensures
