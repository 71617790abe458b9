-- What a run over a file in blocks keeps from turn to turn.
use Rattle.std.specs.Prelude.{◌≡◌, Bool, true, ◌⊎◌, ℕ, ◌+◌, ◌-◌, ◌≤◌, ◌<◌, Result, IfOk}
use Rattle.std.specs.declared.ops.ControlFlow.{ControlFlow}
use Rattle.std.specs.declared.ops.ControlFlow.TheVariants.{Continue, Break}
use Rattle.window.specs.declared.Window.{Window}
use Rattle.window.specs.Window.{Within}
use Rattle.printing.specs.declared.run.Progress.{Progress}
use Rattle.printing.specs.declared.run.BadRecord.{BadRecord}

-- a run that goes on has a window of the block, at most a block further on in the file
abbrev pub GoesOn : ℕ → ℕ → ControlFlow Bool Window → Type 0
GoesOn size place (Continue w) = Within size w × (w.place ≤ place + size)
GoesOn size place (Break written) = Unit

-- another record can be printed: its text has room, and it is whole, since the file has ended or 4140 bytes follow
pub record Printable (end : ℕ) (ended : Bool) (p : Progress) : Type 0 where
  pub inside : p.at < end
  pub room : p.used ≤ 57136
  pub whole : (ended ≡ true) ⊎ (4140 ≤ end - p.at)

-- a record more is printed, and the place moves on unless it is bad: the text is longer by at most the longest answer, and the places in the block and in the
-- file went on together
pub record Nearer (end : ℕ) (p r : Progress) (taken : Result Unit BadRecord) : Type 0 where
  pub inside : r.at ≤ end
  pub more : IfOk taken (λ done. p.at < r.at)
  pub text : r.used ≤ p.used + 8400
  pub on : p.at ≤ r.at
  pub along : r.place + p.at ≡ p.place + r.at

-- a block is printed from p up to r
pub record Reaches (end : ℕ) (p r : Progress) : Type 0 where
  pub inside : r.at ≤ end
  pub text : r.used ≤ 65536
  pub on : p.at ≤ r.at
  pub along : r.place + p.at ≡ p.place + r.at
