use Prim.Native.Nat.{◌*◌, ◌≤◌}
use native.Mathlib.Nat.{mul-le-mul}
use native.Mathlib.Omega.{arith}
use Rattle.whole.specs.Machine.{fits64, unsigned}
use Rattle.holdings.proofs.basis.Goals as goal
use Rattle.holdings.proofs.basis.Goals.{Start}

small : (s : Start) → s.args.limits.clearing * s.args.reference ≤ 100000000000000
small s = mul-le-mul s.requires.0.clearing s.requires.1.most

pub overflow_mul-result : goal.overflow_mul-result
overflow_mul-result c = omega (arith, small c.before)

pub overflow_cast-result : goal.overflow_cast-result
overflow_cast-result c = fits64 (record { size = small c.before }) tt

pub returns : goal.returns
returns c = (unsigned (small c.before) tt).eq
