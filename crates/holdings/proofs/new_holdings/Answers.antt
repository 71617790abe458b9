use mathlib.Core.Path.{◌∙◌}
use Rattle.whole.specs.Machine.{told}
use Rattle.holdings.specs.Holdings.{new_holdings}
use Rattle.holdings.proofs.new_holdings.Goals as goal

pub returns : goal.returns
unfolding new_holdings
returns c = rw (told c.basis-core.result c.basis-core.type_inv ∙ c.basis-core.ensures, c.no_positions-positions.ensures)
