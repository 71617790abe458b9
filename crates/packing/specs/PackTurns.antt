-- What packing a text in blocks keeps from turn to turn.
use Rattle.std.specs.Prelude.{ℕ, ◌+◌, ◌≤◌, ◌<◌, Result, IfErr}
use Rattle.std.specs.declared.ops.ControlFlow.{ControlFlow}
use Rattle.std.specs.declared.ops.ControlFlow.TheVariants.{Continue, Break}
use Rattle.window.specs.declared.Window.{Window}
use Rattle.window.specs.Window.{Within}
use Rattle.packing.specs.declared.packed.Progress.{Progress}
use Rattle.packing.specs.declared.packed.PackError.{PackError}
use Rattle.packing.specs.declared.packed.PackError.TheVariants.{BadLine, NotWritten}

-- another line can be packed
pub record Ready (end : ℕ) (p : Progress) : Type 0 where
  pub inside : p.at < end
  pub room : p.used + 4140 ≤ 65536

-- a line more is packed; lines are counted from 1
pub record Nearer (end : ℕ) (p r : Progress) : Type 0 where
  pub inside : r.at ≤ end
  pub text : r.used ≤ p.used + 4140
  pub on : p.at < r.at
  pub line : 1 ≤ p.number → 1 ≤ r.number

-- a block is packed from a place on
pub record Reaches (end from : ℕ) (r : Progress) : Type 0 where
  pub inside : r.at ≤ end
  pub text : r.used ≤ 65536
  pub on : from ≤ r.at
  pub line : 1 ≤ r.number

-- a line that is no record has a number from 1 on
abbrev pub Counted : PackError → Type 0
Counted (BadLine number) = 1 ≤ number
Counted NotWritten = Unit

-- a run that goes on has a window within the block, at most a block further on in the text
abbrev pub GoesOn : ℕ → ℕ → ControlFlow (Result Unit PackError) (Window × ℕ) → Type 0
GoesOn size place (Continue (w, number)) = Within size w × ((w.place ≤ place + size) × (1 ≤ number))
GoesOn size place (Break packed) = IfErr packed Counted
