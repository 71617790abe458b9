-- The line of the record at a place of an event file.
use Rattle.std.specs.Prelude.{◌≡◌, List, [], ◌∷◌, ◌++◌, ℕ, ◌-◌, length, drop, Option, Some, None}
use Rattle.decimal.specs.Put.{Put}
use Rattle.records.specs.Records.{Entry, Parsed, unread, parsed, reading}
use Rattle.wording.specs.Text.{record_text}

-- a record's text and a line feed
abbrev pub line_of : Entry → List ℕ
line_of e = record_text e.kind e.fields e.exceptions ++ (10 ∷ [])

-- by what stands there: nothing is put for bytes that are no record; else the record's line, and the place after the record is answered
abbrev pub LineBy : Parsed → List ℕ → List ℕ → ℕ → Option (ℕ × ℕ) → List ℕ → Type 0
LineBy unread bytes room used r room' = (r ≡ None) × (room' ≡ room)
LineBy (parsed e rest) bytes room used r room' = (after : ℕ) × ((r ≡ Some (length bytes - length rest, after)) × Put room used (line_of e) after room')

pub record LineOf (bytes : List ℕ) (at : ℕ) (room : List ℕ) (used : ℕ) (r : Option (ℕ × ℕ)) (room' : List ℕ) : Type 0 where
  pub outcome : LineBy (reading (drop at bytes)) bytes room used r room'
