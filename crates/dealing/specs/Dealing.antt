-- What a trade answers in document 01's numbers, and what it makes of the memory.
use Rattle.std.specs.Prelude.{List, ℕ, ℤ, Result, Ok, Err}
use Rattle.model.specs.Calls.{Trade, trade}
use Rattle.model.specs.Answers.{Answer, refused, both_sides}
use Rattle.standing.specs.Made.{Answered}
use Rattle.dealing.specs.declared.Deal.{Deal}
use Rattle.dealing.specs.declared.Dealt.{Dealt}
use Rattle.refusals.specs.Refusals.{number_of}
use Rattle.refusals.specs.declared.Refusal.{Refusal}

-- "8 trade | time, code, buyer, seller, lots, rate"
abbrev pub trade_of : Deal → Trade
trade_of d = record { time = d.time; code = d.code; buyer = d.buyer; seller = d.seller; lots = d.lots; rate = d.rate }

-- "An accepted trade answers each side's total before and after and its limit."
abbrev pub answer_of : Result Dealt Refusal → Answer
answer_of (Ok dealt) = both_sides dealt.buyer dealt.seller
answer_of (Err refusal) = refused (number_of refusal)

-- the answer is the model's, and the memory is that of the book after the trade
abbrev pub Traded : List ℕ → List ℤ → Trade → Result Dealt Refusal → List ℕ → List ℤ → Type 0
Traded counts money t r counts' money' = Answered counts money (trade t) (answer_of r) counts' money'
