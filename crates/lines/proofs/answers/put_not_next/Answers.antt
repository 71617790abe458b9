use mathlib.Core.List.{[], ◌∷◌}
use native.Mathlib.Omega.{arith}
use Rattle.decimal.specs.Decimal.{numeral}
use Rattle.lines.specs.Lines.{no}
use Rattle.lines.specs.LineLaws.{Begun, begun-with, room-left, number_more, line-ends}
use Rattle.lines.specs.LengthLaws.{refusal-length}
use Rattle.lines.proofs.answers.put_not_next.Goals as goal
use Rattle.lines.proofs.answers.put_not_next.Goals.{After-put_field-last, After-put_refusal-first, Start}

abbrev start : After-put_refusal-first → Start
start c = (goal.at.After-put_refusal-first c).Start

abbrev refusal : After-put_field-last → After-put_refusal-first
refusal c = (goal.at.After-put_field-last c).After-put_refusal-first

with_number : (c : After-put_refusal-first) →
    let a = (start c).args in
    Begun a.room.now a.at (numeral a.kind) (no ∷ numeral 20 ∷ []) 44 c.put_refusal-first.result c.put_refusal-first.new.room
with_number c = let s = start c in begun-with (omega (arith, s.requires)) (refusal-length s.args.kind 20) c.put_refusal-first.ensures

with-day : (c : After-put_field-last) →
    let a = (start (refusal c)).args in
    Begun a.room.now a.at (numeral a.kind) (no ∷ numeral 20 ∷ numeral a.day ∷ []) 65 c.put_field-last.result c.put_field-last.new.room
with-day c =
    let s = start (refusal c) in number_more (with_number (refusal c)) s.args.day (omega (arith, s.requires)) c.put_field-last.ensures

pub put_field-last-requires : goal.put_field-last-requires
put_field-last-requires c = room-left (with_number (goal.at.put_field-last-requires c).After-put_refusal-first) 21 (omega (arith, (start (goal.at.put_field-last-requires c).After-put_refusal-first).requires))

pub put_end-requires : goal.put_end-requires
put_end-requires c = room-left (with-day (goal.at.put_end-requires c).After-put_field-last) 1 (omega (arith, (start (refusal (goal.at.put_end-requires c).After-put_field-last)).requires))

pub returns : goal.returns
returns c =
    line-ends (with-day (goal.at.returns c).After-put_field-last) (omega (arith, (start (refusal (goal.at.returns c).After-put_field-last)).requires)) c.put_end.ensures
