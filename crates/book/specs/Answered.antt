-- What a group of calls answers to a record that is in range.
use Rattle.std.specs.Prelude.{⊤, List, ℕ, zero, suc, ℤ, Result, Ok, Err}
use Rattle.model.specs.Calls.{Call}
use Rattle.model.specs.Answers.{kept}
use Rattle.standing.specs.Standing.{view}
use Rattle.standing.specs.Made as standing
use Rattle.dealing.specs.declared.Dealt.{Dealt}
use Rattle.opening.specs.declared.dates.OpenError.{OpenError}
use Rattle.opening.specs.declared.dates.OpenError.TheVariants as opening
use Rattle.refusals.specs.Refusals.{number_of}
use Rattle.refusals.specs.declared.Refusal.{Refusal}
use Rattle.book.specs.declared.calls.Answer.{Answer}
use Rattle.book.specs.declared.calls.Answer.TheVariants.{Refused, NotNext, Done, BothSides}
use Rattle.book.specs.Called.{answer_of}

-- ---- what is answered where a call is accepted, or its refusal's number; what a trade answers; and what an open answers
abbrev pub numbered : Answer → ℕ → Answer
numbered accepted zero = accepted
numbered accepted (suc n) = Refused (suc n)

abbrev pub dealt : Result Dealt Refusal → Answer
dealt (Ok d) = BothSides d.buyer d.seller
dealt (Err refusal) = Refused (number_of refusal)

abbrev pub opened : Result ⊤ OpenError → Answer
opened (Ok done) = Done
opened (Err (opening.Refused refusal)) = Refused (number_of refusal)
opened (Err (opening.NotNext day)) = NotNext day

-- ---- the answer is the model's, and the memory is that of the book after the call
abbrev pub Answered : List ℕ → List ℤ → Call → Answer → List ℕ → List ℤ → Type 0
Answered counts money c r counts' money' =
    let b = view counts money in standing.Answered counts money c (answer_of (kept (standing.decided b c) b c) r) counts' money'
