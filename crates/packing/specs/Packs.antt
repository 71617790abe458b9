-- The bytes of the record whose text a line is.
use Rattle.std.specs.Prelude.{◌≡◌, true, List, ℕ, ◌+◌, ◌≤◌, length, Option, Some, None}
use Rattle.fields.specs.Fields.{shaped}
use Rattle.records.specs.Records.{writing}
use Rattle.records.specs.Writing.{entry_of}
use Rattle.decimal.specs.Put.{Put}
use Rattle.wording.specs.Text.{record_text}
use Rattle.parsing.specs.Parsing.{NoRecord}

-- a squeezed line ends within its room
abbrev pub Inside : ℕ → Option ℕ → Type 0
Inside size (Some n) = n ≤ size
Inside size None = Unit

-- a line is the text of a record that bytes can say, and the record's bytes are put
pub record RecordPut (line room : List ℕ) (used after : ℕ) (room' : List ℕ) : Type 0 where
  pub kind : ℕ
  pub fields : List ℕ
  pub exceptions : List ℕ
  pub shape : shaped kind fields (length exceptions) ≡ true
  pub text : line ≡ record_text kind fields exceptions
  pub put : Put room used (writing (entry_of kind fields exceptions)) after room'

-- nothing is put for a line that is no record's text
abbrev pub RecordOf : List ℕ → List ℕ → ℕ → Option ℕ → List ℕ → Type 0
RecordOf line room used (Some after) room' = RecordPut line room used after room'
RecordOf line room used None room' = NoRecord line × (room' ≡ room)

-- a line adds a record at most, of 4140 bytes at most
abbrev pub AtMost : ℕ → Option ℕ → Type 0
AtMost used (Some after) = after ≤ used + 4140
AtMost used None = Unit
