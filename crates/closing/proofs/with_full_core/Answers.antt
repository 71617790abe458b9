-- The other signed fields are read back as they were.
use Rattle.std.proofs.Common.{rules, to_z, of_z}
use mathlib.Core.Path.{◌≡◌, ◌∙◌}
use mir.Syntax.{w64}
use Rattle.whole.specs.Machine.{told}
use Rattle.closing.specs.DayEnd.{with_core}
use Rattle.closing.proofs.with_full_core.Goals as goal

pub returns : goal.returns
unfolding with_core
returns c =
    let h = c.args.h in
    let special : to_z w64 (of_z w64 h.special) ≡ h.special = search rules in
    let dayend : to_z w64 (of_z w64 h.dayend) ≡ h.dayend = search rules in
    let variation : to_z w64 (of_z w64 h.variation) ≡ h.variation = search rules in
    rw (told c.full_core.result c.full_core.type_inv ∙ c.full_core.ensures, special, dayend, variation)
