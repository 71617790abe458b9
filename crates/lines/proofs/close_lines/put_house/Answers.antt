use mathlib.Core.List.{[], ◌∷◌}
use native.Mathlib.Omega.{arith}
use Rattle.whole.specs.Machine.{back}
use Rattle.decimal.specs.Decimal.{signed_numeral}
use Rattle.lines.specs.Lines.{house}
use Rattle.lines.specs.LineLaws.{Begun, begun, room-left, signed-more, line-ends}
use Rattle.lines.proofs.close_lines.put_house.Goals as goal
use Rattle.lines.proofs.close_lines.put_house.Goals.{After-put_signed_field-last, After-put_word-next, Start}

abbrev start : After-put_word-next → Start
start c = (goal.at.After-put_word-next c).Start

abbrev word : After-put_signed_field-last → After-put_word-next
word c = (goal.at.After-put_signed_field-last c).After-put_word-next

with-word : (c : After-put_word-next) →
    let a = (start c).args in Begun a.room.now a.at house [] 5 c.put_word-next.result c.put_word-next.new.room
with-word c = begun (omega (arith, (start c).requires)) (omega arith) c.put_word-next.ensures

with-balance : (c : After-put_signed_field-last) →
    let a = (start (word c)).args in
    Begun a.room.now a.at house (signed_numeral a.balance ∷ []) 27 c.put_signed_field-last.result c.put_signed_field-last.new.room
with-balance c =
    let s = start (word c) in
    signed-more (with-word (word c)) s.args.balance (back s.ranges.balance) (omega (arith, s.requires)) c.put_signed_field-last.ensures

pub put_end-requires : goal.put_end-requires
put_end-requires c =
    room-left (with-balance (goal.at.put_end-requires c).After-put_signed_field-last) 1 (omega (arith, (start (word (goal.at.put_end-requires c).After-put_signed_field-last)).requires))

pub returns : goal.returns
returns c =
    line-ends (with-balance (goal.at.returns c).After-put_signed_field-last) (omega (arith, (start (word (goal.at.returns c).After-put_signed_field-last)).requires)) c.put_end.ensures
