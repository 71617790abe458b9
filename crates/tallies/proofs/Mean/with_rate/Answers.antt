use Rattle.whole.specs.Machine.{arg, kept, fits, unsigned, add, mul}
use Rattle.tallies.specs.Means.{mean_with}
use Rattle.tallies.specs.MeanLaws.{fair-size}
use Rattle.tallies.proofs.Mean.with_rate.Goals as goal

pub overflow_mul-result : goal.overflow_mul-result
overflow_mul-result c = fits (mul (unsigned c.requires.1.weight tt) (arg c.requires.1.rate tt)) tt

pub overflow_add-result : goal.overflow_add-result
overflow_add-result c =
    fits (add (arg (fair-size c.args.self c.requires.0) tt) (kept (mul (unsigned c.requires.1.weight tt) (arg c.requires.1.rate tt)) tt)) tt

pub returns : goal.returns
unfolding mean_with
returns c =
    rw (kept (add (arg (fair-size c.args.self c.requires.0) tt) (kept (mul (unsigned c.requires.1.weight tt) (arg c.requires.1.rate tt)) tt)) tt).eq
