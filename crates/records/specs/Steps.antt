-- What the reader's own steps answer: some fields as a row, and a record from its exceptions on.
use Rattle.std.specs.Prelude.{cond, List, ℕ, ◌-◌, ltb, length, drop, Option, Some, None, Result}
use Rattle.numbers.specs.Several.{Numbers, nothing, some, on_some, many}
use Rattle.fields.specs.Fields.{announced}
use Rattle.records.specs.declared.Fields.{Fields}
use Rattle.records.specs.declared.Malformed.{Malformed}
use Rattle.records.specs.declared.Record.{Record}
use Rattle.records.specs.Reading.{padded, malformed_at, record_at}

-- fields as a row, and the place after them
abbrev pub filled : List ℕ → Numbers → Option Fields
filled s nothing = None
filled s (some l rest) = Some (record { values = padded l; end = length s - length rest })

-- a record whose own fields were read, as a row, with the place `more` of its exceptions: these are passed
abbrev pub after_fields : List ℕ → ℕ → ℕ → List ℕ → ℕ → Result Record Malformed
after_fields s first kind row more =
    cond (ltb 400 (announced kind row)) (malformed_at first)
    (on_some (many (announced kind row) (drop more s)) (malformed_at first) λ exceptions rest. record_at (length s - length rest) kind row more)
