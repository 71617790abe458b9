-- What the book's one entry promises: to a record with any values, the model's answer and the memory of the model's book after it.
use Rattle.std.specs.Prelude.{◌≡◌, List, ℕ, ℤ}
use Rattle.records.specs.Records.{Entry}
use Rattle.memory.specs.Memory.{Holds}
use Rattle.model.specs.Book.{Book}
use Rattle.model.specs.Answers as model
use Rattle.standing.specs.Standing.{rows_of, view}
use Rattle.standing.specs.Made.{Sound}
use Rattle.book.specs.declared.calls.Answer.{Answer}
use Rattle.book.specs.declared.calls.Answer.TheVariants.{Refused, NotNext, Done, BothSides, Closed}

-- an answer in document 01's words; what a close answers is read off the book after it
abbrev pub answer_of : Book → Answer → model.Answer
answer_of after (Refused number) = model.refused number
answer_of after (NotNext day) = model.not_next day
answer_of after Done = model.done
answer_of after (BothSides buyer seller) = model.both_sides buyer seller
answer_of after Closed = model.report (model.report_of after)

-- the answer is the model's, the memory is that of the book after the call, and it can be called again
pub record Called (counts : List ℕ) (money : List ℤ) (e : Entry) (r : Answer) (counts' : List ℕ) (money' : List ℤ) : Type 0 where
  pub answers : answer_of (view counts' money') r ≡ model.answer (view counts money) e
  pub memory : Holds counts' money' (rows_of (model.called (view counts money) e))
  pub views : view counts' money' ≡ model.called (view counts money) e
  pub sound : Sound counts' money'
