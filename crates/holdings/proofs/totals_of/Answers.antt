use mathlib.Core.Path.{◌∙◌}
use native.Mathlib.Omega.{arith}
use Rattle.whole.specs.Machine.{Got, got, arg, told, kept, fits, add}
use Rattle.whole.specs.Amounts.{amount-within}
use Rattle.positions.specs.BoundLaws.{nets-wider}
use Rattle.holdings.specs.Limits.{limit_of, totals_of}
use Rattle.holdings.proofs.totals_of.Goals as goal
use Rattle.holdings.proofs.totals_of.Goals.{Start}

pub total-then-requires : goal.total-then-requires
total-then-requires c =
    (nets-wider c.requires.0.positions.nets (omega arith), c.requires.1.1)

abbrev limit : (s : Start) → Got 200000000000000 (limit_of s.args.h)
limit s = got (add (arg (amount-within s.requires.0.core) tt) (arg (amount-within s.requires.0.limits.tolerance) tt))

pub overflow_add-result : goal.overflow_add-result
overflow_add-result c = fits (limit c.before.before.before.before.before.before.before.before.before).reads tt

pub returns : goal.returns
unfolding totals_of
returns c =
    let after = c.total-now in
    let before = c.total-then in
    rw (told before.result before.type_inv ∙ before.ensures, told after.result after.type_inv ∙ after.ensures, (kept (limit c.before.before.before.before.before.before.before.before.before).reads tt).eq)
