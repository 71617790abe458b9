-- Each arm of the code is one of the three cases of a rest.
use mathlib.Core.Path.{◌≡◌, sym, ap, ◌∙◌}
use Prim.Native.Nat.{◌/◌, ◌%◌, ◌<◌, ◌≤◌, ◌^◌}
use native.Mathlib.Nat.{mod-lt, mod-le, div-le_self, div-lt_self}
use native.Mathlib.Omega.{arith}
use lib.IntN.{nat_abs}
use lib.Signed.{nat_abs-le}
use Rattle.whole.specs.Machine.{back}
use Rattle.whole.specs.Round.{on_tie, size_rounded_by}
use Rattle.whole.proofs.RoundLaws.{less-than-half, more-than-half, half}
use Rattle.whole.proofs.size_rounded.Goals as goal
use Rattle.whole.proofs.size_rounded.Goals.{After-size-m, Else-left-rest}

size_is : (c : After-size-m) → c.size-m.result ≡ nat_abs c.args.n
size_is c = c.size-m.ensures ∙ ap nat_abs (back c.ranges.n)

size-most : (c : After-size-m) → c.size-m.result ≤ 2 ^ 63
size-most c =
    let s = c.before in
    omega (arith, size_is c, nat_abs-le s.args.n s.ranges.n.sfits)

rest_below : (c : After-size-m) → c.size-m.result % c.args.d < c.args.d
rest_below c = mod-lt c.size-m.result c.requires

pub overflow_sub-left : goal.overflow_sub-left
overflow_sub-left c = omega (arith, rest_below c)

pub overflow_add-result : goal.overflow_add-result
overflow_add-result c =
    let s = c.before.before in
    omega (arith, size-most s, div-le_self s.size-m.result s.args.d)

-- a tie has d at least 2
pub on_tie-requires : goal.on_tie-requires
on_tie-requires c =
    let s = c.before.before in
    let m = s.size-m.result in
    let d = s.args.d in
    let g = rest_below s in
    let k : m / d < m = div-lt_self (omega (arith, mod-le m d)) (omega arith) in
    omega (arith, size-most s)

pub returns-then-rest-left : goal.returns-then-rest-left
returns-then-rest-left c = let s = c.before in rw (← (size_is s)) (sym (less-than-half _ _ _ _ (omega arith)))

pub returns-then-left-rest : goal.returns-then-left-rest
returns-then-left-rest c =
    let s = c.before.before in
    rw (← (size_is s)) (sym (more-than-half _ _ _ _ (omega arith)))

tied : (c : Else-left-rest) → let s = c.before.before in let a = s.args in
    on_tie a.n (s.size-m.result / a.d) ≡ size_rounded_by on_tie a.n a.d
tied c =
    let s = c.before.before in
    rw (← (size_is s)) (sym (half _ _ _ _ (omega (arith, rest_below s))))

pub returns-else-left-rest : goal.returns-else-left-rest
returns-else-left-rest c =
    let s = c.before.before.before in
    let q = s.size-m.result / s.args.d in
    c.on_tie.ensures ∙ ap (λ n. on_tie n q) (back s.ranges.n) ∙ tied c.before
