-- The printed day of a file, and what printing one record of it promises.
use Rattle.std.specs.Prelude.{◌≡◌, List, [], ◌++◌, ℕ, ◌+◌, ◌-◌, ◌<◌, ℤ, length, drop}
use Rattle.records.specs.Records.{Entry, Parsed, unread, parsed, reading}
use Rattle.model.specs.Book.{Book}
use Rattle.model.specs.Answers.{called, answer}
use Rattle.standing.specs.Standing.{view}
use Rattle.book.specs.declared.calls.Answer.{Answer}
use Rattle.book.specs.Called.{Called}
use Rattle.decimal.specs.Put.{Put}
use Rattle.lines.specs.Lines.{answer_text, bad_text}
use Rattle.printing.specs.declared.one_record.Printed.{Printed}
use Rattle.printing.specs.declared.one_record.Printed.TheVariants.{Next, Bad}

-- ---- what is printed of the bytes from a place of a file on, on a book
-- "Per record: kind and `ok`, or kind, `no`, refusal; a bad record prints `bad` and its place, and ends." An end prints nothing.
pub data Prints : Book → ℕ → List ℕ → List ℕ → Type 0 where
  ended : {b : Book} {place : ℕ} → Prints b place [] []
  spoilt : {b : Book} {place : ℕ} {bytes : List ℕ} → 0 < length bytes → reading bytes ≡ unread → Prints b place bytes (bad_text place)
  answered : {b : Book} {place : ℕ} {bytes : List ℕ} {e : Entry} {rest text : List ℕ} → reading bytes ≡ parsed e rest
      → Prints (called b e) (place + (length bytes - length rest)) rest text
      → Prints b place bytes (answer_text e.kind (answer b e) ++ text)

-- on a book b, bytes at a place print a text and then what the rest prints on b', whatever the file goes on with
abbrev pub PrintsFirst : Book → ℕ → List ℕ → List ℕ → Book → ℕ → List ℕ → Type 0
PrintsFirst b place s text b' next rest = (more left : List ℕ) → Prints b' next (rest ++ more) left → Prints b place (s ++ more) (text ++ left)

-- ---- one record
-- a record that is read is called and answered in its text; one that is not is `bad`, and the book stays as it was
abbrev pub PrintedBy : Parsed → List ℕ → ℕ → List ℕ → List ℤ → List ℕ → ℕ → Printed → List ℕ → List ℤ → List ℕ → Type 0
PrintedBy unread bytes place counts money room used r counts' money' room' =
    (after : ℕ) × ((r ≡ Bad after) × (Put room used (bad_text place) after room' × ((counts' ≡ counts) × (money' ≡ money))))
PrintedBy (parsed e rest) bytes place counts money room used r counts' money' room' =
    (after : ℕ) × ((r ≡ Next (length bytes - length rest) after)
    × (Put room used (answer_text e.kind (answer (view counts money) e)) after room' × ((a : Answer) × Called counts money e a counts' money')))

-- by the record that stands at the place
pub record PrintedAt (bytes : List ℕ) (at place : ℕ) (counts : List ℕ) (money : List ℤ) (room : List ℕ) (used : ℕ) (r : Printed) (counts' : List ℕ) (money' : List ℤ) (room' : List ℕ) : Type 0 where
  pub outcome : PrintedBy (reading (drop at bytes)) bytes place counts money room used r counts' money' room'
