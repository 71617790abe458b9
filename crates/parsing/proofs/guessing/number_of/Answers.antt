-- What `number_in` answers, with 0 for no number.
use mathlib.Core.Path.{sym, ap, ◌∙◌}
use Rattle.parsing.specs.Guess.{or_zero}
use Rattle.parsing.proofs.guessing.number_of.Goals as goal

pub returns-in_default : goal.returns-in_default
returns-in_default c = ap or_zero (sym c.in_default.is ∙ c.number_in.ensures)

pub returns : goal.returns
returns c = ap or_zero (sym c.in-Some.is ∙ c.number_in.ensures)
