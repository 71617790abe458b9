use mathlib.Core.List.{[], ◌∷◌}
use native.Mathlib.Omega.{arith}
use Rattle.decimal.specs.Decimal.{numeral}
use Rattle.decimal.specs.Put.{Put}
use Rattle.decimal.proofs.PutLaws.{put-more, numeral-length}
use Rattle.model.specs.Book.{Book}
use Rattle.standing.specs.Standing.{view}
use Rattle.lines.specs.Lines.{ok, line}
use Rattle.lines.specs.LineLaws.{Begun, begun, room-left, field-more, number_more, line-ends}
use Rattle.lines.specs.LengthLaws.{closed-length, report-length}
use Rattle.lines.proofs.answers.put_closed.Goals as goal
use Rattle.lines.proofs.answers.put_closed.Goals.{After-put_end-last, After-put_field-third, After-put_number-first, After-put_word-second, Start}

abbrev start : After-put_number-first → Start
start c = (goal.at.After-put_number-first c).Start

abbrev kind : After-put_word-second → After-put_number-first
kind c = (goal.at.After-put_word-second c).After-put_number-first

abbrev word : After-put_field-third → After-put_word-second
word c = (goal.at.After-put_field-third c).After-put_word-second

abbrev field : After-put_end-last → After-put_field-third
field c = (goal.at.After-put_end-last c).After-put_field-third

abbrev book : Start → Book
book s = view s.args.counts.now s.args.money.now

with-kind : (c : After-put_number-first) →
    let a = (start c).args in Begun a.room.now a.at (numeral a.kind) [] 20 c.put_number-first.result c.put_number-first.new.room
with-kind c = begun (omega (arith, (start c).requires.1)) (numeral-length (start c).args.kind) c.put_number-first.ensures

with-word : (c : After-put_word-second) →
    let a = (start (kind c)).args in
    Begun a.room.now a.at (numeral a.kind) (ok ∷ []) 23 c.put_word-second.result c.put_word-second.new.room
with-word c = field-more (with-kind (kind c)) 2 (omega (arith, (start (kind c)).requires.1)) (omega arith) c.put_word-second.ensures

with-day : (c : After-put_field-third) →
    let s = start (kind (word c)) in
    Begun s.args.room.now s.args.at (numeral s.args.kind) (ok ∷ numeral (book s).today.day ∷ []) 44
    c.put_field-third.result c.put_field-third.new.room
with-day c =
    let s = start (kind (word c)) in
    number_more (with-word (word c)) (book s).today.day (omega (arith, s.requires.1)) (rw c.day_of.ensures at c.put_field-third.ensures)

with-line : (c : After-put_end-last) →
    let s = start (kind (word (field c))) in
    Put s.args.room.now s.args.at (line (numeral s.args.kind) (ok ∷ numeral (book s).today.day ∷ []))
    c.put_end-last.result c.put_end-last.new.room
with-line c = line-ends (with-day (field c)) (omega (arith, (start (kind (word (field c)))).requires.1)) c.put_end-last.ensures

pub put_word-second-requires : goal.put_word-second-requires
put_word-second-requires c = room-left (with-kind (goal.at.put_word-second-requires c).After-put_number-first) 3 (omega (arith, (start (goal.at.put_word-second-requires c).After-put_number-first).requires.1))

pub put_field-third-requires : goal.put_field-third-requires
put_field-third-requires c = room-left (with-word (goal.at.put_field-third-requires c).After-put_word-second) 21 (omega (arith, (start (kind (goal.at.put_field-third-requires c).After-put_word-second)).requires.1))

pub put_end-last-requires : goal.put_end-last-requires
put_end-last-requires c =
    room-left (with-day (goal.at.put_end-last-requires c).After-put_field-third) 1 (omega (arith, (start (kind (word (goal.at.put_end-last-requires c).After-put_field-third))).requires.1))

pub put_report-requires : goal.put_report-requires
put_report-requires c =
    let s = start (kind (word (field (goal.at.put_report-requires c).After-put_end-last))) in
    (s.requires.0, omega (arith, s.requires.1, (with-line (goal.at.put_report-requires c).After-put_end-last).place, closed-length s.args.kind (book s).today.day, c.put_end-last.auto.room, (with-day (field (goal.at.put_report-requires c).After-put_end-last)).same))

pub returns : goal.returns
returns c =
    let s = start (kind (word (field (goal.at.returns c).After-put_end-last))) in
    put-more (omega (arith, s.requires.1, closed-length s.args.kind (book s).today.day, report-length s.requires.0))
    (with-line (goal.at.returns c).After-put_end-last) c.put_report.ensures
