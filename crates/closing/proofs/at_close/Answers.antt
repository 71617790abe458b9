use Rattle.std.proofs.Common.{rules, to_z, of_z}
use mathlib.Core.Path.{◌≡◌, ◌∙◌}
use mir.Syntax.{w64}
use native.Mathlib.Omega.{arith}
use Rattle.whole.specs.Machine.{told}
use Rattle.positions.specs.BoundLaws.{nets-wider}
use Rattle.booking.specs.BoundLaws.{carried-kept}
use Rattle.closing.specs.DayEnd.{at_close}
use Rattle.closing.proofs.at_close.Goals as goal

pub total-dayend-requires : goal.total-dayend-requires
total-dayend-requires c =
    (rw c.all_carried-positions.ensures (nets-wider (carried-kept c.requires.0.positions c.requires.1.marks).nets (omega arith)), c.requires.1.margins)

pub returns : goal.returns
unfolding at_close
returns c =
    let h = c.args.h in
    let carried = c.all_carried-positions in
    let booked = c.variation in
    let asked = c.total-dayend in
    let core : to_z w64 (of_z w64 h.core) ≡ h.core = search rules in
    let special : to_z w64 (of_z w64 h.special) ≡ h.special = search rules in
    rw (told asked.result asked.type_inv ∙ asked.ensures, told booked.result booked.type_inv ∙ booked.ensures, carried.ensures, core, special)
