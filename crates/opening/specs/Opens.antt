-- What an open answers.
use Rattle.std.specs.Prelude.{⊤, Result, Ok, Err, ℕ, Option, Some, None}
use Rattle.model.specs.Answers.{Answer, refused, not_next, done}
use Rattle.refusals.specs.Refusals.{number_of}
use Rattle.refusals.specs.declared.Refusal.TheVariants.{NotNextDay}
use Rattle.opening.specs.declared.dates.OpenError.{OpenError}
use Rattle.opening.specs.declared.dates.OpenError.TheVariants.{Refused, NotNext}

-- an open's answer in document 01's words
abbrev pub answer_of : Result ⊤ OpenError → Answer
answer_of (Ok opened) = done
answer_of (Err (Refused refusal)) = refused (number_of refusal)
answer_of (Err (NotNext day)) = not_next day

-- Request L2: "20 returns the expected day"
abbrev pub not_next_as : Option ℕ → OpenError
not_next_as (Some d) = NotNext d
not_next_as None = Refused NotNextDay
