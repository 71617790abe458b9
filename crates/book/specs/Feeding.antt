-- Bytes on a book: the record at a place, and a whole file.
use Rattle.std.specs.Prelude.{◌≡◌, List, [], ◌∷◌, reverse, ℕ, ◌-◌, ◌≤◌, ℤ, length, drop, Result, Ok, Err}
use Rattle.records.specs.declared.Malformed.{Malformed}
use Rattle.records.specs.Records.{Entry, Parsed, unread, parsed, reading}
use Rattle.memory.specs.Memory.{Holds}
use Rattle.model.specs.History as model
use Rattle.standing.specs.Standing.{rows_of}
use Rattle.book.specs.declared.calls.Answer.{Answer}
use Rattle.book.specs.declared.bytes.Fed.{Fed}
use Rattle.book.specs.Called.{Called}

abbrev pub on_to : ℕ → Answer → Result Fed Malformed
on_to next a = Ok (record { next = next; answer = a })

abbrev pub bad_at : ℕ → Result Fed Malformed
bad_at at = Err (record { at = at })

-- "for 1 also the place of the first byte of the record", and nothing changes; else the record is called, and the next place is answered
abbrev pub FedBy : Parsed → List ℕ → ℕ → List ℕ → List ℤ → Result Fed Malformed → List ℕ → List ℤ → Type 0
FedBy unread bytes at counts money r counts' money' = (r ≡ bad_at at) × ((counts' ≡ counts) × (money' ≡ money))
FedBy (parsed e rest) bytes at counts money r counts' money' =
    (a : Answer) × ((r ≡ on_to (length bytes - length rest) a) × Called counts money e a counts' money')

-- by the record that stands at the place
pub record FedAt (bytes : List ℕ) (at : ℕ) (counts : List ℕ) (money : List ℤ) (r : Result Fed Malformed) (counts' : List ℕ) (money' : List ℤ) : Type 0 where
  pub outcome : FedBy (reading (drop at bytes)) bytes at counts money r counts' money'

-- ---- a file: its records in their order up to the first that is refused under 1, and what is left there
unfoldable pub ReadsTo : List ℕ → List Entry → List ℕ → Type 0
ReadsTo s [] left = (s ≡ left) × (reading s ≡ unread)
ReadsTo s (e ∷ more) left = (rest : List ℕ) × ((reading s ≡ parsed e rest) × ReadsTo rest more left)

-- the memory is that of a new book after the file's records; a history has the latest call first
pub record Ran (bytes : List ℕ) (place : ℕ) (counts : List ℕ) (money : List ℤ) : Type 0 where
  pub entries : List Entry
  pub reads : ReadsTo bytes entries (drop place bytes)
  pub inside : place ≤ length bytes
  pub memory : Holds counts money (rows_of (model.run (reverse entries)))
