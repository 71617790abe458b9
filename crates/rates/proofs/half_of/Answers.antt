use native.Mathlib.Nat.{mul-le-mul}
use native.Mathlib.Omega.{arith}
use Rattle.whole.specs.Machine.{arg, kept, fits, unsigned, add, mul}
use Rattle.tallies.specs.MeanLaws.{fair-size}
use Rattle.rates.specs.Rules.{halfway}
use Rattle.rates.proofs.half_of.Goals as goal

pub overflow_mul-result : goal.overflow_mul-result
overflow_mul-result c =
    fits (mul (arg (fair-size c.args.a c.requires.0) tt) (unsigned c.requires.1.weight tt)) tt

pub overflow_mul-result-2 : goal.overflow_mul-result-2
overflow_mul-result-2 c =
    fits (mul (arg (fair-size c.args.b c.requires.1) tt) (unsigned c.requires.0.weight tt)) tt

pub overflow_add-result : goal.overflow_add-result
overflow_add-result c =
    fits
    (add (kept (mul (arg (fair-size c.args.a c.requires.0) tt) (unsigned c.requires.1.weight tt)) tt)
    (kept (mul (arg (fair-size c.args.b c.requires.1) tt) (unsigned c.requires.0.weight tt)) tt))
    tt

pub overflow_mul-result-3 : goal.overflow_mul-result-3
overflow_mul-result-3 c =
    omega (arith, mul-le-mul c.requires.0.weight c.requires.1.weight)

pub overflow_mul-result-4 : goal.overflow_mul-result-4
overflow_mul-result-4 c =
    omega (arith, mul-le-mul c.requires.0.weight c.requires.1.weight)

pub returns : goal.returns
unfolding halfway
returns c =
    rw
    (kept
    (add (kept (mul (arg (fair-size c.args.a c.requires.0) tt) (unsigned c.requires.1.weight tt)) tt)
    (kept (mul (arg (fair-size c.args.b c.requires.1) tt) (unsigned c.requires.0.weight tt)) tt))
    tt
    ).eq
