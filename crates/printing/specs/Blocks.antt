-- What a run over a file in blocks prints: of a block, and of a turn.
use Rattle.std.specs.Prelude.{◌≡◌, Bool, true, false, ◌⊎◌, List, [], ◌++◌, ℕ, ◌≤◌, ℤ, length, take, drop, Result, Ok, IfOk, IfErr}
use Rattle.std.specs.declared.ops.ControlFlow.{ControlFlow}
use Rattle.std.specs.declared.ops.ControlFlow.TheVariants.{Continue, Break}
use Rattle.numbers.specs.Below.{Small}
use Rattle.model.specs.Book.{Book}
use Rattle.standing.specs.Standing.{view}
use Rattle.decimal.specs.Put.{Put}
use Rattle.window.specs.declared.Window.{Window}
use Rattle.window.specs.Window.{held}
use Rattle.printing.specs.declared.run.Progress.{Progress}
use Rattle.printing.specs.declared.run.BadRecord.{BadRecord}
use Rattle.printing.specs.Printed.{Prints, PrintsFirst}

-- ---- bytes of a file
-- what may follow in the file: nothing where it has ended
abbrev pub Follows : Bool → List ℕ → Type 0
Follows ended more = ended ≡ true → more ≡ []

-- no record is longer than 4140 bytes, so that these bytes have the next one whole, or none follow them
abbrev pub Enough : List ℕ → List ℕ → Type 0
Enough s more = (more ≡ []) ⊎ (4140 ≤ length s)

-- ---- printing some of them
-- where the printing of a window begins: with no text
abbrev pub start : Window → Progress
start w = record { at = w.from; place = w.place; used = 0 }

-- Some bytes are printed from p up to r. `May more`: more may follow them in the file. Where no record was bad, the text stands before what
-- the file prints from r on; where one was, it is all that the file prints.
pub record PrintedUpTo (May : List ℕ → Type 0) (bytes : List ℕ) (p : Progress) (counts : List ℕ) (money : List ℤ) (room : List ℕ) (r : Progress) (taken : Result Unit BadRecord) (counts' : List ℕ) (money' : List ℤ) (room' : List ℕ) : Type 0 where
  pub text : List ℕ
  pub put : Put room p.used text r.used room'
  pub first : IfOk taken (λ done. PrintsFirst (view counts money) p.place (drop p.at bytes) text (view counts' money') r.place (drop r.at bytes))
  pub all : IfErr taken (λ bad. (more : List ℕ) → May more → Small more → Prints (view counts money) p.place (drop p.at bytes ++ more) text)

-- ---- a turn
-- how a turn ends by what is printed of a window: the run goes on with what is left, or ends at a bad record or at the file's end
abbrev pub TurnedTo : Progress → Result Unit BadRecord → Window → ControlFlow Bool Window → Type 0
TurnedTo p taken w (Continue next) = (taken ≡ Ok tt) × (next ≡ record { from = p.at; to = w.to; place = p.place; ended = w.ended })
TurnedTo p taken w (Break written) = (written ≡ true) × IfOk taken (λ done. (w.ended ≡ true) × (p.at ≡ w.to))

-- By how a turn ends that had bytes s in hand: its text stands before what the file prints from the next window on; or it is all that the
-- file prints; or it was not written.
abbrev pub TurnPrints : Book → ℕ → List ℕ → Bool → List ℕ → ControlFlow Bool Window → Book → List ℕ → Type 0
TurnPrints b place s ended text (Continue next) b' block = (next.ended ≡ ended) × PrintsFirst b place s text b' next.place (held next block)
TurnPrints b place s ended text (Break true) b' block = (more : List ℕ) → Follows ended more → Small more → Prints b place (s ++ more) text
TurnPrints b place s ended text (Break false) b' block = Unit

-- the bytes of the window and those that were read behind them are printed; the text stands at the front of the room, to be written
pub record TurnTaken (counts : List ℕ) (money : List ℤ) (w : Window) (block : List ℕ) (t : ControlFlow Bool Window) (counts' : List ℕ) (money' : List ℤ) (block' room : List ℕ) : Type 0 where
  pub got : List ℕ
  pub ended : Bool
  pub none : w.ended ≡ true → (got ≡ []) × (ended ≡ true)
  pub text : List ℕ
  pub shown : take (length text) room ≡ text
  pub prints : TurnPrints (view counts money) w.place (held w block ++ got) ended text t (view counts' money') block'
