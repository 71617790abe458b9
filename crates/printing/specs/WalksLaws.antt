-- A printed record is one that a loop can go on from.
use Rattle.std.specs.Prelude.{◌≡◌, refl, List, ℕ, ◌+◌, ◌≤◌, ℤ, length, drop}
use Rattle.std.proofs.Common.{subst, arith}
use Rattle.numbers.specs.Below.{Small}
use Rattle.records.specs.Records.{Parsed, unread, parsed, reading}
use Rattle.standing.specs.Made.{Sound}
use Rattle.decimal.proofs.PutLaws.{put-length}
use Rattle.lines.specs.Lines.{answer_text}
use Rattle.lines.specs.LengthLaws.{answer-length, bad-length}
use Rattle.printing.specs.declared.one_record.Printed.{Printed}
use Rattle.printing.specs.Printed.{PrintedBy, PrintedAt}
use Rattle.printing.specs.Walks.{Walks}
use Rattle.printing.specs.WindowLaws.{record-ends}

pub printed-walks : {bytes : List ℕ} {at place : ℕ} {counts : List ℕ} {money : List ℤ} {room : List ℕ} {used : ℕ} {r : Printed} {counts' : List ℕ} {money' : List ℤ} {room' : List ℕ}
    → Small bytes → used + 8400 ≤ length room → Sound counts money → PrintedAt bytes at place counts money room used r counts' money' room'
    → Walks bytes at room used r counts' money' room'
printed-walks {bytes} {at} {place} {counts} {money} {room} {used} {r} {counts'} {money'} {room'} small enough s f = go (reading (drop at bytes)) refl f.outcome
  where
    go : (g : Parsed) → reading (drop at bytes) ≡ g → PrintedBy g bytes place counts money room used r counts' money' room'
        → Walks bytes at room used r counts' money' room'
    go unread h (end, (q, (put, (same, kept)))) =
        let short = bad-length place in
        let ends = put.place in
        record { sound = rw (same, kept) s; long = put-length (omega arith) put; further = rw q (omega arith) }
    go (parsed e rest) h (end, (q, (put, (a, c)))) =
        let short = subst (λ z. length (answer_text e.kind z) ≤ 8400) c.answers (answer-length c.sound e.kind a) in
        let ends = put.place in
        let next = record-ends bytes at small h in
        record { sound = c.sound; long = put-length (omega arith) put; further = rw q (next.on, (next.inside, omega arith)) }
