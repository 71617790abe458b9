use mathlib.Core.List.{[], ◌∷◌}
use native.Mathlib.Omega.{arith}
use Rattle.whole.specs.Machine.{told}
use Rattle.decimal.specs.Decimal.{numeral, signed_numeral}
use Rattle.lines.specs.Lines.{account}
use Rattle.lines.specs.LineLaws.{Begun, begun, room-left, number_more, signed-more, line-ends}
use Rattle.lines.proofs.close_lines.put_account.Goals as goal
use Rattle.lines.proofs.close_lines.put_account.Goals.{After-put_field-second, After-put_signed_field-fifth, After-put_signed_field-fourth, After-put_signed_field-last, After-put_signed_field-third, After-put_word-first, Start}

abbrev start : After-put_word-first → Start
start c = (goal.at.After-put_word-first c).Start

abbrev word : After-put_field-second → After-put_word-first
word c = (goal.at.After-put_field-second c).After-put_word-first

abbrev number : After-put_signed_field-third → After-put_field-second
number c = (goal.at.After-put_signed_field-third c).After-put_field-second

abbrev variation : After-put_signed_field-fourth → After-put_signed_field-third
variation c = (goal.at.After-put_signed_field-fourth c).After-put_signed_field-third

abbrev due : After-put_signed_field-fifth → After-put_signed_field-fourth
due c = (goal.at.After-put_signed_field-fifth c).After-put_signed_field-fourth

abbrev requirement : After-put_signed_field-last → After-put_signed_field-fifth
requirement c = (goal.at.After-put_signed_field-last c).After-put_signed_field-fifth

with-word : (c : After-put_word-first) →
    let a = (start c).args in Begun a.room.now a.at account [] 7 c.put_word-first.result c.put_word-first.new.room
with-word c = begun (omega (arith, (start c).requires)) (omega arith) c.put_word-first.ensures

with_number : (c : After-put_field-second) →
    let a = (start (word c)).args in
    Begun a.room.now a.at account (numeral a.number ∷ []) 28 c.put_field-second.result c.put_field-second.new.room
with_number c = let s = start (word c) in number_more (with-word (word c)) s.args.number (omega (arith, s.requires)) c.put_field-second.ensures

with-variation : (c : After-put_signed_field-third) →
    let a = (start (word (number c))).args in
    Begun a.room.now a.at account (numeral a.number ∷ signed_numeral a.bill.variation ∷ []) 50
    c.put_signed_field-third.result c.put_signed_field-third.new.room
with-variation c =
    let s = start (word (number c)) in
    signed-more (with_number (number c)) s.args.bill.variation (told s.args.bill.variation c.struct_told-1.given.0.1)
    (omega (arith, s.requires)) c.put_signed_field-third.ensures

with-due : (c : After-put_signed_field-fourth) →
    let a = (start (word (number (variation c)))).args in
    Begun a.room.now a.at account
    (numeral a.number ∷ signed_numeral a.bill.variation ∷ signed_numeral a.bill.due ∷ []) 72
    c.put_signed_field-fourth.result c.put_signed_field-fourth.new.room
with-due c =
    let s = start (word (number (variation c))) in
    signed-more (with-variation (variation c)) s.args.bill.due (told s.args.bill.due c.struct_told-2-1.given.1.0.1)
    (omega (arith, s.requires)) c.put_signed_field-fourth.ensures

with-requirement : (c : After-put_signed_field-fifth) →
    let a = (start (word (number (variation (due c))))).args in
    Begun a.room.now a.at account
    (numeral a.number ∷ signed_numeral a.bill.variation ∷ signed_numeral a.bill.due ∷ signed_numeral a.bill.requirement ∷ []) 94
    c.put_signed_field-fifth.result c.put_signed_field-fifth.new.room
with-requirement c =
    let s = start (word (number (variation (due c)))) in
    signed-more (with-due (due c)) s.args.bill.requirement (told s.args.bill.requirement c.struct_told-3-1.given.1.1.0.1)
    (omega (arith, s.requires)) c.put_signed_field-fifth.ensures

with-free : (c : After-put_signed_field-last) →
    let a = (start (word (number (variation (due (requirement c)))))).args in
    Begun a.room.now a.at account
    (numeral a.number ∷ signed_numeral a.bill.variation ∷ signed_numeral a.bill.due ∷ signed_numeral a.bill.requirement ∷
    signed_numeral a.bill.free ∷ []) 116
    c.put_signed_field-last.result c.put_signed_field-last.new.room
with-free c =
    let s = start (word (number (variation (due (requirement c))))) in
    signed-more (with-requirement (requirement c)) s.args.bill.free (told s.args.bill.free c.struct_told-4-1.given.1.1.1.0.1)
    (omega (arith, s.requires)) c.put_signed_field-last.ensures

pub put_signed_field-third-requires : goal.put_signed_field-third-requires
put_signed_field-third-requires c =
    room-left (with_number (goal.at.put_signed_field-third-requires c).After-put_field-second) 22 (omega (arith, (start (word (goal.at.put_signed_field-third-requires c).After-put_field-second)).requires))

pub put_signed_field-fourth-requires : goal.put_signed_field-fourth-requires
put_signed_field-fourth-requires c =
    room-left (with-variation (goal.at.put_signed_field-fourth-requires c).After-put_signed_field-third) 22 (omega (arith, (start (word (number (goal.at.put_signed_field-fourth-requires c).After-put_signed_field-third))).requires))

pub put_signed_field-fifth-requires : goal.put_signed_field-fifth-requires
put_signed_field-fifth-requires c =
    room-left (with-due (goal.at.put_signed_field-fifth-requires c).After-put_signed_field-fourth) 22 (omega (arith, (start (word (number (variation (goal.at.put_signed_field-fifth-requires c).After-put_signed_field-fourth)))).requires))

pub put_signed_field-last-requires : goal.put_signed_field-last-requires
put_signed_field-last-requires c =
    room-left (with-requirement (goal.at.put_signed_field-last-requires c).After-put_signed_field-fifth) 22 (omega (arith, (start (word (number (variation (due (goal.at.put_signed_field-last-requires c).After-put_signed_field-fifth))))).requires))

pub put_end-requires : goal.put_end-requires
put_end-requires c =
    room-left (with-free (goal.at.put_end-requires c).After-put_signed_field-last) 1 (omega (arith, (start (word (number (variation (due (requirement (goal.at.put_end-requires c).After-put_signed_field-last)))))).requires))

pub returns : goal.returns
returns c =
    line-ends (with-free (goal.at.returns c).After-put_signed_field-last) (omega (arith, (start (word (number (variation (due (requirement (goal.at.returns c).After-put_signed_field-last)))))).requires)) c.put_end.ensures
