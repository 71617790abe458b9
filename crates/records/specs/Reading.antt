-- What the reader answers at a place, by the record that stands there.
use Rattle.std.specs.Prelude.{List, ◌∷◌, ◌++◌, ℕ, ◌+◌, ◌-◌, length, drop, replicate, Result, Ok, Err}
use Rattle.numbers.specs.Several.{write_of}
use Rattle.records.specs.declared.Malformed.{Malformed}
use Rattle.records.specs.declared.Record.{Record}
use Rattle.records.specs.Records.{Parsed, unread, parsed, reading}

-- fields with zeros after them: a row has room for thirteen
abbrev pub padded : List ℕ → List ℕ
padded l = l ++ replicate (13 - length l) 0

-- "for 1 also the place of the first byte of the record"
abbrev pub malformed_at : ℕ → Result Record Malformed
malformed_at at = Err (record { at = at })

abbrev pub record_at : ℕ → ℕ → List ℕ → ℕ → Result Record Malformed
record_at next kind row more = Ok (record { kind = kind; fields = row; more = more; next = next })

-- what was found in the bytes s from a place on
abbrev pub placed : List ℕ → ℕ → Parsed → Result Record Malformed
placed s at unread = malformed_at at
placed s at (parsed e rest) = record_at (length s - length rest) e.kind (padded e.fields) (at + length (write_of (e.kind ∷ e.fields)))

-- the record at a place; "a place at or past the end is a record cut short"
abbrev pub reading_at : List ℕ → ℕ → Result Record Malformed
reading_at s at = placed s at (reading (drop at s))
