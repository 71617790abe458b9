-- Below the tenth group every group fits; a tenth fits if it is one.
use mathlib.Core.Path.{◌≡◌}
use Prim.Native.Nat.{◌+◌, ◌*◌, ◌^◌, ◌<◌}
use native.Mathlib.Omega.{arith}
use borrow.Author.Tests.{lt-ltb, le-ltb}
use Rattle.decoding.specs.Groups.{scale-under, sum-under, sum_over}
use Rattle.decoding.proofs.with_last.Goals as goal
use Rattle.decoding.proofs.with_last.Goals.{Joined-else-scale-eq-TENTH, else-scale-eq-TENTH-via-then-scale-eq-TENTH+else-group-gt1, else-scale-eq-TENTH-via-else-scale-eq-TENTH}

pub returns-then-group-eq0 : goal.returns-then-group-eq0
returns-then-group-eq0 c = rw (le-ltb 0 c.args.group (omega arith))

pub returns-then-group-gt1 : goal.returns-then-group-gt1
returns-then-group-gt1 c =
    let a = c.args in
    rw (lt-ltb 0 a.group (omega arith), le-ltb (a.value + a.group * a.scale) (2 ^ 64) (sum_over _ _ _ c.requires.1 c.if-group-gt1.true c.if-scale-eq-TENTH.true))

small : (c : Joined-else-scale-eq-TENTH) → let a = c.args in a.value + a.group * a.scale < 2 ^ 64
small c = elim c.else-scale-eq-TENTH.branch [
  | else-scale-eq-TENTH-via-then-scale-eq-TENTH+else-group-gt1 w ↦ (let one : c.args.group ≡ 1 = omega arith in rw one (omega arith))
  | else-scale-eq-TENTH-via-else-scale-eq-TENTH w ↦ sum-under _ c.args.group _ c.requires.1 c.requires.2 (scale-under _ c.requires.0 w.if-scale-eq-TENTH.false)
]

pub overflow_mul-result : goal.overflow_mul-result
overflow_mul-result c = omega (arith, small c)

pub overflow_add-result : goal.overflow_add-result
overflow_add-result c = omega (arith, small c)

pub returns : goal.returns
returns c = let a = c.args in rw (lt-ltb 0 a.group (omega arith), lt-ltb (a.value + a.group * a.scale) (2 ^ 64) (small c))
