use mathlib.Core.Path.{◌∙◌}
use Rattle.whole.specs.Machine.{told}
use Rattle.rates.proofs.nearest_to.Goals as goal

pub returns : goal.returns
returns c =
    told c.rounded.result c.rounded.type_inv
    ∙ c.rounded.ensures
    ∙ rw (told c.args.m.sum c.struct_told-1.given.0.1)
