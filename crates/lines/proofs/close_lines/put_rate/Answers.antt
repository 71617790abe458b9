use mathlib.Core.List.{[], ◌∷◌}
use native.Mathlib.Omega.{arith}
use Rattle.whole.specs.Machine.{told}
use Rattle.decimal.specs.Decimal.{numeral, signed_numeral}
use Rattle.rates.specs.Rules.{number_of}
use Rattle.lines.specs.Lines.{rate}
use Rattle.lines.specs.LineLaws.{Begun, begun, room-left, number_more, signed-more, line-ends}
use Rattle.lines.proofs.close_lines.put_rate.Goals as goal
use Rattle.lines.proofs.close_lines.put_rate.Goals.{After-put_field-fourth, After-put_field-last, After-put_field-second, After-put_signed_field-third, After-put_word-first, Start}

abbrev start : After-put_word-first → Start
start c = (goal.at.After-put_word-first c).Start

abbrev word : After-put_field-second → After-put_word-first
word c = (goal.at.After-put_field-second c).After-put_word-first

abbrev code : After-put_signed_field-third → After-put_field-second
code c = (goal.at.After-put_signed_field-third c).After-put_field-second

abbrev rated : After-put_field-fourth → After-put_signed_field-third
rated c = (goal.at.After-put_field-fourth c).After-put_signed_field-third

abbrev rule : After-put_field-last → After-put_field-fourth
rule c = (goal.at.After-put_field-last c).After-put_field-fourth

with-word : (c : After-put_word-first) →
    let a = (start c).args in Begun a.room.now a.at rate [] 4 c.put_word-first.result c.put_word-first.new.room
with-word c = begun (omega (arith, (start c).requires)) (omega arith) c.put_word-first.ensures

with_code : (c : After-put_field-second) →
    let a = (start (word c)).args in
    Begun a.room.now a.at rate (numeral a.code ∷ []) 25 c.put_field-second.result c.put_field-second.new.room
with_code c = let s = start (word c) in number_more (with-word (word c)) s.args.code (omega (arith, s.requires)) c.put_field-second.ensures

with-rate : (c : After-put_signed_field-third) →
    let a = (start (word (code c))).args in
    Begun a.room.now a.at rate (numeral a.code ∷ signed_numeral a.found.rate ∷ []) 47
    c.put_signed_field-third.result c.put_signed_field-third.new.room
with-rate c =
    let s = start (word (code c)) in
    signed-more (with_code (code c)) s.args.found.rate (told s.args.found.rate c.struct_told-1.given.0.1)
    (omega (arith, s.requires)) c.put_signed_field-third.ensures

with-rule : (c : After-put_field-fourth) →
    let a = (start (word (code (rated c)))).args in
    Begun a.room.now a.at rate (numeral a.code ∷ signed_numeral a.found.rate ∷ numeral (number_of a.found.rule) ∷ []) 68
    c.put_field-fourth.result c.put_field-fourth.new.room
with-rule c =
    let s = start (word (code (rated c))) in
    number_more (with-rate (rated c)) (number_of s.args.found.rule) (omega (arith, s.requires)) (rw c.number_of.ensures at c.put_field-fourth.ensures)

with-used : (c : After-put_field-last) →
    let a = (start (word (code (rated (rule c))))).args in
    Begun a.room.now a.at rate
    (numeral a.code ∷ signed_numeral a.found.rate ∷ numeral (number_of a.found.rule) ∷ numeral a.found.used ∷ []) 89
    c.put_field-last.result c.put_field-last.new.room
with-used c =
    let s = start (word (code (rated (rule c)))) in
    number_more (with-rule (rule c)) s.args.found.used (omega (arith, s.requires)) c.put_field-last.ensures

pub put_signed_field-third-requires : goal.put_signed_field-third-requires
put_signed_field-third-requires c = room-left (with_code (goal.at.put_signed_field-third-requires c).After-put_field-second) 22 (omega (arith, (start (word (goal.at.put_signed_field-third-requires c).After-put_field-second)).requires))

pub put_field-fourth-requires : goal.put_field-fourth-requires
put_field-fourth-requires c =
    room-left (with-rate (goal.at.put_field-fourth-requires c).After-put_signed_field-third) 21 (omega (arith, (start (word (code (goal.at.put_field-fourth-requires c).After-put_signed_field-third))).requires))

pub put_field-last-requires : goal.put_field-last-requires
put_field-last-requires c =
    room-left (with-rule (goal.at.put_field-last-requires c).After-put_field-fourth) 21 (omega (arith, (start (word (code (rated (goal.at.put_field-last-requires c).After-put_field-fourth)))).requires))

pub put_end-requires : goal.put_end-requires
put_end-requires c =
    room-left (with-used (goal.at.put_end-requires c).After-put_field-last) 1 (omega (arith, (start (word (code (rated (rule (goal.at.put_end-requires c).After-put_field-last))))).requires))

pub returns : goal.returns
returns c =
    line-ends (with-used (goal.at.returns c).After-put_field-last) (omega (arith, (start (word (code (rated (rule (goal.at.returns c).After-put_field-last))))).requires)) c.put_end.ensures
