-- Turns one after the other print the file: however it falls into blocks, their texts are its printed day.
use Rattle.std.proofs.Common.{subst, append_assoc}
use Rattle.std.specs.declared.ops.ControlFlow.TheVariants.{Continue, Break}
use Rattle.std.specs.Prelude.{true, false, List, ◌++◌, ℕ, ℤ}
use Rattle.numbers.specs.Below.{Small}
use Rattle.memory.specs.Memory.{Holds}
use Rattle.model.specs.Book.{new}
use Rattle.model.proofs.KeptLaws.{kept_new}
use Rattle.standing.specs.Standing.{rows_of, view}
use Rattle.standing.specs.StandingLaws.{view-is}
use Rattle.window.specs.declared.Window.{Window}
use Rattle.window.specs.Window.{held}
use Rattle.printing.specs.Printed.{Prints}
use Rattle.printing.specs.Blocks.{Follows, TurnTaken}

-- ---- a run from a memory and a window of a block on, with `more` behind the window in the file: the turns' texts, joined
-- Each turn begins with the memory, the window and the block that the one before it left. The last one may leave some of the file unread,
-- behind a bad record.
pub data Runs : List ℕ → List ℤ → Window → List ℕ → List ℕ → List ℕ → Type 0 where
  last : {counts counts' : List ℕ} {money money' : List ℤ} {w : Window} {block block' room more : List ℕ}
      → (t : TurnTaken counts money w block (Break true) counts' money' block' room) → Follows t.ended more → Small more
      → Runs counts money w block (t.got ++ more) t.text
  next : {counts counts' : List ℕ} {money money' : List ℤ} {w w' : Window} {block block' room more text : List ℕ}
      → (t : TurnTaken counts money w block (Continue w') counts' money' block' room) → Runs counts' money' w' block' more text
      → Runs counts money w block (t.got ++ more) (t.text ++ text)

pub run-prints : {counts : List ℕ} {money : List ℤ} {w : Window} {block more text : List ℕ} → Runs counts money w block more text
    → Prints (view counts money) w.place (held w block ++ more) text
run-prints (last {counts} {money = money} {w = w} {block} {more = more} t follows small) =
    subst (λ s. Prints (view counts money) w.place s t.text) (append_assoc (held w block) t.got more) (t.prints more follows small)
run-prints (next {counts} {money = money} {w = w} {block = block} {more = more} {text} t rest) =
    subst (λ s. Prints (view counts money) w.place s (t.text ++ text)) (append_assoc (held w block) t.got more)
    (t.prints.1 more text (run-prints rest))

-- ---- a whole file: nothing is read yet, and the book is new
pub file-prints : {counts : List ℕ} {money : List ℤ} {block file text : List ℕ} → Holds counts money (rows_of new)
    → Runs counts money (record { from = 0; to = 0; place = 0; ended = false }) block file text → Prints new 0 file text
file-prints {file = file} {text} m turns = subst (λ b. Prints b 0 file text) (view-is kept_new m) (run-prints turns)
