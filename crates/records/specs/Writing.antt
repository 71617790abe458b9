-- What the writer answers, and what the lent room then holds.
use Rattle.std.specs.Prelude.{cond, List, ◌++◌, ℕ, ltb, length, take, drop, Result, Ok, Err}
use Rattle.fields.specs.Fields.{count, shaped}
use Rattle.records.specs.declared.Unwritten.{Unwritten}
use Rattle.records.specs.declared.Unwritten.TheVariants.{Malformed, NoRoom}
use Rattle.records.specs.Records.{Entry, entry, writing}

-- the record that a kind, a row of thirteen numbers and exceptions make
abbrev pub entry_of : ℕ → List ℕ → List ℕ → Entry
entry_of kind fields exceptions = entry kind (take (count kind) fields) exceptions

pub record Out : Type 0 where
  pub answer : Result ℕ Unwritten
  pub room : List ℕ

abbrev pub out : Result ℕ Unwritten → List ℕ → Out
out a r = record { answer = a; room = r }

-- "16 exactly when the room is shorter than the record; then nothing is written";
-- else the record stands "at the start of lent room" and "the room after it stays"
abbrev pub written_to : List ℕ → List ℕ → Out
written_to room bytes = cond (ltb (length room) (length bytes)) (out (Err NoRoom) room) (out (Ok (length bytes)) (bytes ++ drop (length bytes) room))

-- "refused 1 (place 0) for a record no reader would take under 1"
unfoldable pub written_in : List ℕ → ℕ → List ℕ → List ℕ → Out
written_in room kind fields exceptions =
    cond (shaped kind fields (length exceptions)) (written_to room (writing (entry_of kind fields exceptions))) (out (Err (Malformed 0)) room)
