-- What each answer means in document 01: "A refusal returns its number, for 1 also the place of the first byte of the record".
use Rattle.std.specs.Prelude.{ℕ, Result, Ok, Err}
use Rattle.records.specs.declared.Malformed.{Malformed}
use Rattle.records.specs.declared.Record.{Record}
use Rattle.records.specs.declared.Unwritten.{Unwritten}
use Rattle.records.specs.declared.Unwritten.TheVariants.{Malformed as Untaken, NoRoom}

-- the place after what was read, or the length of what was written; a refusal with a place, or without
pub data Outcome : Type 0 where
  done : ℕ → Outcome
  refused_at : ℕ → ℕ → Outcome
  refused : ℕ → Outcome

abbrev pub outcome_of : Result Record Malformed → Outcome
outcome_of (Ok r) = done r.next
outcome_of (Err bad) = refused_at 1 bad.at

abbrev pub outcome_of_writing : Result ℕ Unwritten → Outcome
outcome_of_writing (Ok length) = done length
outcome_of_writing (Err (Untaken place)) = refused_at 1 place
outcome_of_writing (Err NoRoom) = refused 16
