-- What a line says (docs/GUIDE.md, 'A day as text'): the record whose text it is, or that it is no record's text.
use Rattle.std.specs.Prelude.{◌≡◌, true, List, ℕ, ◌≤◌, ◌<◌, length, take, Result, Ok, Err}
use Rattle.lists.specs.All.{All}
use Rattle.scan.specs.Text.{most, byte_end}
use Rattle.fields.specs.Fields.{count, announced, shaped}
use Rattle.wording.specs.Words.{word_of}
use Rattle.wording.specs.Text.{record_text}
use Rattle.parsing.specs.declared.line.Reading.{Reading}
use Rattle.parsing.specs.declared.line.LineError.{LineError}
use Rattle.parsing.specs.declared.line.LineError.TheVariants.{NoKind, NoField, NoException, TooLong}

-- numbers of 64 bits
abbrev pub Small : List ℕ → Type 0
Small ns = All (λ n. n ≤ most) ns

-- a record that bytes can say: 13 fields with zeros after those of its kind, and the exceptions that it announces
pub record Sayable (kind : ℕ) (fields exceptions : List ℕ) : Type 0 where
  pub shape : shaped kind fields (length exceptions) ≡ true
  pub width : length fields ≡ 13
  pub small : Small fields
  pub few : Small exceptions

-- the line of no record
abbrev pub NoRecord : List ℕ → Type 0
NoRecord line = (kind : ℕ) (fields exceptions : List ℕ) → Sayable kind fields exceptions → line ≡ record_text kind fields exceptions → ⊥

-- the line of this record and of no other; its exceptions stand first in a list
pub record OfRecord (line : List ℕ) (kind : ℕ) (fields list : List ℕ) : Type 0 where
  pub shape : shaped kind fields (announced kind fields) ≡ true
  pub text : line ≡ record_text kind fields (take (announced kind fields) list)
  pub only : (k : ℕ) (fs es : List ℕ) → Sayable k fs es → line ≡ record_text k fs es
      → (k ≡ kind) × (fs ≡ fields) × (es ≡ take (announced kind fields) list)

-- what was being read where a line is no record's is one of the kind, a field of the kind, or an exception announced
abbrev pub Names : LineError → Type 0
Names NoKind = Unit
Names (NoField kind field) = field < count kind
Names (NoException kind many read) = (kind < 13) × (read < many)
Names (TooLong kind) = kind < 13

-- a line's first word, up to a space
abbrev pub first_word : List ℕ → List ℕ
first_word line = take (byte_end 32 line 0) line

-- it is that of the kind named, and no kind's where none is
abbrev pub Begun : List ℕ → LineError → Type 0
Begun line NoKind = (kind : ℕ) → kind < 13 → first_word line ≡ word_of kind → ⊥
Begun line (NoField kind field) = first_word line ≡ word_of kind
Begun line (NoException kind many read) = first_word line ≡ word_of kind
Begun line (TooLong kind) = first_word line ≡ word_of kind

abbrev pub Says : List ℕ → Result Reading LineError → List ℕ → Type 0
Says line (Ok read) list = OfRecord line read.kind read.fields list
Says line (Err error) list = Names error × Begun line error × NoRecord line
