use mathlib.Core.Path.{◌≡◌, ap, ◌∙◌}
use Prim.Native.Nat.{◌*◌, ◌≤◌}
use native.Mathlib.Nat.{mul-le-mul}
use native.Mathlib.Omega.{arith}
use lib.IntN.{pos, nat_abs}
use Rattle.whole.specs.Machine.{arg, fits64, unsigned}
use Rattle.totals.proofs.asked.Goals as goal
use Rattle.totals.proofs.asked.Goals.{After-size}

sized : (c : After-size) → c.size.result ≡ nat_abs c.args.p.net
sized c = c.size.ensures ∙ ap nat_abs (arg c.requires.0 tt).eq

small : (c : After-size) → c.size.result * c.args.margin ≤ 2100000000000
small c =
    let lots : c.size.result ≤ 21000 = rw (sized c) c.requires.0.size in
    mul-le-mul lots c.requires.1

pub overflow_mul-result : goal.overflow_mul-result
overflow_mul-result c = omega (arith, small c)

pub overflow_cast-result : goal.overflow_cast-result
overflow_cast-result c = fits64 (record { size = small c }) tt

pub returns : goal.returns
returns c = (unsigned (small c) tt).eq ∙ ap (λ n. pos (n * c.args.margin)) (sized c)
