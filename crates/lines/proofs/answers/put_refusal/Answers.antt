use mathlib.Core.List.{[], ◌∷◌}
use native.Mathlib.Omega.{arith}
use Rattle.decimal.specs.Decimal.{numeral}
use Rattle.decimal.proofs.PutLaws.{numeral-length}
use Rattle.lines.specs.Lines.{no}
use Rattle.lines.specs.LineLaws.{Begun, begun, room-left, field-more, number_more}
use Rattle.lines.proofs.answers.put_refusal.Goals as goal
use Rattle.lines.proofs.answers.put_refusal.Goals.{After-put_number-first, After-put_word-second, Start}

abbrev start : After-put_number-first → Start
start c = (goal.at.After-put_number-first c).Start

abbrev kind : After-put_word-second → After-put_number-first
kind c = (goal.at.After-put_word-second c).After-put_number-first

with-kind : (c : After-put_number-first) →
    let a = (start c).args in Begun a.room.now a.at (numeral a.kind) [] 20 c.put_number-first.result c.put_number-first.new.room
with-kind c = begun (omega (arith, (start c).requires)) (numeral-length (start c).args.kind) c.put_number-first.ensures

with-word : (c : After-put_word-second) →
    let a = (start (kind c)).args in
    Begun a.room.now a.at (numeral a.kind) (no ∷ []) 23 c.put_word-second.result c.put_word-second.new.room
with-word c = field-more (with-kind (kind c)) 2 (omega (arith, (start (kind c)).requires)) (omega arith) c.put_word-second.ensures

pub put_word-second-requires : goal.put_word-second-requires
put_word-second-requires c =
    room-left (with-kind (goal.at.put_word-second-requires c).After-put_number-first) 3 (omega (arith, (start (goal.at.put_word-second-requires c).After-put_number-first).requires))

pub put_field-requires : goal.put_field-requires
put_field-requires c = room-left (with-word (goal.at.put_field-requires c).After-put_word-second) 21 (omega (arith, (start (kind (goal.at.put_field-requires c).After-put_word-second)).requires))

pub returns : goal.returns
returns c =
    let s = start (kind (goal.at.returns c).After-put_word-second) in
    (number_more (with-word (goal.at.returns c).After-put_word-second) s.args.number (omega (arith, s.requires)) c.put_field.ensures).put
