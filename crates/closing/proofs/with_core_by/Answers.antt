-- The core by the test; the other signed fields are read back as they were.
use Rattle.std.proofs.Common.{rules, to_z, of_z}
use mathlib.Core.Path.{◌≡◌, refl, ap₂, ◌∙◌}
use mathlib.Core.Bool.{true, false}
use lib.IntN.{pos}
use lib.Signed.{le_z}
use mir.Syntax.{w64}
use Rattle.whole.specs.Machine.{back, told}
use Rattle.whole.specs.Tests.{le_is}
use Rattle.whole.specs.Larger.{smaller}
use Rattle.closing.specs.DayEnd.{full_core, core_by, with_core}
use Rattle.closing.proofs.with_core_by.Goals as goal
use Rattle.closing.proofs.with_core_by.Goals.{Joined-free-ge0, then-free-ge0, else-free-ge0}

core_is : (c : Joined-free-ge0) → to_z w64 c.if-free-ge0.result-bits ≡ core_by c.args.h c.args.reference c.args.free
core_is c =
    let full = c.full_core-full in
    let whole : to_z w64 (of_z w64 full.result) ≡ full_core c.args.h c.args.reference = told full.result full.type_inv ∙ full.ensures in
    elim c.if-free-ge0.branch [
      | then-free-ge0 w ↦
          let enough : le_z (pos 0) c.args.free ≡ true = le_is {e = pos 0} refl (back c.ranges.free) w.if-free-ge0.true in
          w.result-is ∙ whole ∙ rw enough
      | else-free-ge0 w ↦
          let short : le_z (pos 0) c.args.free ≡ false = le_is {e = pos 0} refl (back c.ranges.free) w.if-free-ge0.false in
          let core : to_z w64 (of_z w64 c.args.h.core) ≡ c.args.h.core = search rules in
          w.result-is ∙ told w.smaller.result w.smaller.type_inv ∙ w.smaller.ensures ∙ ap₂ smaller whole core ∙ rw short
    ]

pub returns : goal.returns
unfolding with_core
returns c =
    let h = c.args.h in
    let special : to_z w64 (of_z w64 h.special) ≡ h.special = search rules in
    let dayend : to_z w64 (of_z w64 h.dayend) ≡ h.dayend = search rules in
    let variation : to_z w64 (of_z w64 h.variation) ≡ h.variation = search rules in
    rw (core_is (goal.at.returns c).Joined-free-ge0, special, dayend, variation)
