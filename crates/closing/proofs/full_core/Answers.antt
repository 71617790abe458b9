use Rattle.std.proofs.Common.{rules}
use mathlib.Core.Path.{ap₂, ◌∙◌}
use Rattle.whole.specs.Machine.{told}
use Rattle.whole.specs.Larger.{larger}
use Rattle.closing.proofs.full_core.Goals as goal

pub returns : goal.returns
returns c =
    told c.larger.result c.larger.type_inv
    ∙ c.larger.ensures
    ∙ ap₂ larger (told c.basis.result c.basis.type_inv ∙ c.basis.ensures) (search rules)
