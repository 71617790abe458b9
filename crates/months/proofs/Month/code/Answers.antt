-- The code is the definition's expression.
use mathlib.Core.Path.{refl}
use Rattle.months.specs.Months.{code_of}
use Rattle.months.proofs.Month.code.Goals as goal

pub returns : goal.returns
unfolding code_of
returns c = refl
