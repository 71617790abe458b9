-- What unpacking a file in blocks keeps from turn to turn.
use Rattle.std.specs.Prelude.{ℕ, ◌+◌, ◌≤◌, ◌<◌, Result}
use Rattle.std.specs.declared.ops.ControlFlow.{ControlFlow}
use Rattle.std.specs.declared.ops.ControlFlow.TheVariants.{Continue, Break}
use Rattle.window.specs.declared.Window.{Window}
use Rattle.window.specs.Window.{Within}
use Rattle.packing.specs.declared.unpacked.Progress.{Progress}
use Rattle.packing.specs.declared.unpacked.UnpackError.{UnpackError}

-- another record can be unpacked
pub record Ready (end : ℕ) (p : Progress) : Type 0 where
  pub inside : p.at < end
  pub room : p.used + 8915 ≤ 65536

-- a record more is unpacked
pub record Nearer (end : ℕ) (p r : Progress) : Type 0 where
  pub inside : r.at ≤ end
  pub text : r.used ≤ p.used + 8915
  pub on : p.at < r.at

-- a block is unpacked from a place on
pub record Reaches (end from : ℕ) (r : Progress) : Type 0 where
  pub inside : r.at ≤ end
  pub text : r.used ≤ 65536
  pub on : from ≤ r.at

-- a run that goes on has a window within the block, at most a block further on in the file
abbrev pub GoesOn : ℕ → ℕ → ControlFlow (Result Unit UnpackError) Window → Type 0
GoesOn size place (Continue w) = Within size w × (w.place ≤ place + size)
GoesOn size place (Break unpacked) = Unit
