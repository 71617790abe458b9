-- How far a file is followed, and what a run over it in blocks keeps from turn to turn.
use Rattle.std.specs.Prelude.{◌≡◌, Bool, true, List, ℕ, ◌+◌, ◌-◌, ◌≤◌, ◌<◌, ℤ, Result, Ok, Err, IfOk, IfErr}
use Rattle.std.specs.declared.ops.ControlFlow.{ControlFlow}
use Rattle.std.specs.declared.ops.ControlFlow.TheVariants.{Continue, Break}
use Rattle.records.specs.declared.Malformed.{Malformed}
use Rattle.standing.specs.Made.{Sound}
use Rattle.window.specs.declared.Window.{Window}
use Rattle.window.specs.Window.{Within}
use Rattle.desk.specs.Follows.{Followable}
use Rattle.explaining.specs.declared.followed.State.{State}
use Rattle.explaining.specs.declared.run.Damaged.{Damaged}

-- a record was taken, or none stands there: the place moves on where one was taken, and stays, with the table, where none stands
pub record Further (end : ℕ) (s r : State) (taken : Result Unit Malformed) : Type 0 where
  pub on : s.at ≤ r.at
  pub inside : r.at ≤ end
  pub more : IfOk taken (λ done. s.at < r.at)
  pub stays : IfErr taken (λ bad. (r.at ≡ s.at) × (r.rows ≡ s.rows))

-- a block is followed from s up to r
pub record Reaches (end : ℕ) (s r : State) : Type 0 where
  pub on : s.at ≤ r.at
  pub inside : r.at ≤ end

-- another record can be taken
abbrev pub Ready : ℕ → State → Bool → Type 0
Ready end s r = r ≡ true → s.at < end

-- how a turn ends that came to s in the window w
abbrev pub GoesOn : Window → State → ControlFlow (Result State Damaged) (Window × State) → Type 0
GoesOn w s (Continue (next, more)) =
    (next ≡ record { from = s.at; to = w.to; place = w.place + (s.at - w.from); ended = w.ended }) × (more ≡ s)
GoesOn w s (Break (Ok last)) = last ≡ s
GoesOn w s (Break (Err damaged)) = damaged.place ≡ w.place + (s.at - w.from)

-- A turn keeps the memory and the table of some history. One that goes on has a window of a block of so many bytes, at most a block further on
-- in the file.
abbrev pub Carried : ℕ → ℕ → ℕ → ControlFlow (Result State Damaged) (Window × State) → List ℕ → List ℤ → List ℕ → List ℤ → Type 0
Carried n size place (Continue (w, s)) counts money row_counts row_money =
    Followable n counts money row_counts row_money s.rows × (Within size w × (w.place ≤ place + size))
Carried n size place (Break (Ok s)) counts money row_counts row_money = Followable n counts money row_counts row_money s.rows
Carried n size place (Break (Err damaged)) counts money row_counts row_money = Sound counts money
