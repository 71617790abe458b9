-- What is known of a memory, and what a call makes of it.
use Rattle.std.specs.Prelude.{◌≡◌, List, ℕ, ℤ}
use Rattle.memory.specs.Memory.{Holds}
use Rattle.model.specs.Book.{Book}
use Rattle.model.specs.Calls.{Call}
use Rattle.model.specs.Refusals.{first_of, tests}
use Rattle.model.specs.Answers.{Answer, kept, answered}
use Rattle.model.specs.Kept.{Kept}
use Rattle.standing.specs.Standing.{rows_of, view}

-- the book that the memory stands for is a kept one, and the memory is just that of this book: what made it is not asked. Both stand behind a
-- function, so that a proof that only hands the memory on is not shown all that is known of it
pub record Sound (counts : List ℕ) (money : List ℤ) : Type 0 where
  pub told : Unit {0} → Kept (view counts money) × Holds counts money (rows_of (view counts money))

-- the refusal of a call whose record is in range, 0 where it is accepted
abbrev pub decided : Book → Call → ℕ
decided b c = first_of (tests b c)

-- a call answered by a number: the refusal is the model's, and the memory after it is that of the book after the call
pub record Made (counts : List ℕ) (money : List ℤ) (c : Call) (number : ℕ) (counts' : List ℕ) (money' : List ℤ) : Type 0 where
  pub answers : number ≡ decided (view counts money) c
  pub memory : Holds counts' money' (rows_of (kept number (view counts money) c))

-- a call with an answer of its own: the answer is the model's, and the memory after it is that of the book after the call
pub record Answered (counts : List ℕ) (money : List ℤ) (c : Call) (a : Answer) (counts' : List ℕ) (money' : List ℤ) : Type 0 where
  pub answers : let b = view counts money in a ≡ answered (decided b c) b c
  pub memory : let b = view counts money in Holds counts' money' (rows_of (kept (decided b c) b c))
