use lib.IntN.{◌+ℤ◌, ◌-ℤ◌}
use Rattle.whole.specs.Machine.{Got, got, arg, kept, fits, add, sub}
use Rattle.whole.specs.Amounts.{amount-within}
use Rattle.funds.specs.Funds.{billed}
use Rattle.funds.specs.BoundLaws.{margin-within}
use Rattle.funds.proofs.billed.Goals as goal
use Rattle.funds.proofs.billed.Goals.{Start}

abbrev due : (s : Start) → Got 935424000000000000 (s.args.f.due +ℤ s.args.variation)
due s = got (add (arg s.requires.0.due tt) (arg s.requires.1.0 tt))

abbrev backed : (s : Start) → Got 2905760000000000000 (s.args.f.margin +ℤ (s.args.f.due +ℤ s.args.variation))
backed s = got (add (arg (margin-within s.requires.0) tt) (kept (due s).reads tt))

abbrev free : (s : Start)
    → Got 2906080000000000000 ((s.args.f.margin +ℤ (s.args.f.due +ℤ s.args.variation)) -ℤ s.args.requirement)
free s = got (sub (kept (backed s).reads tt) (arg (amount-within s.requires.1.1) tt))

pub overflow_add-due : goal.overflow_add-due
overflow_add-due c = fits (due c.before.before.before).reads tt

pub overflow_add-free : goal.overflow_add-free
overflow_add-free c = fits (backed c.before.before.before.before).reads tt

pub overflow_sub-free : goal.overflow_sub-free
overflow_sub-free c = fits (free c.before.before.before.before).reads tt

pub returns : goal.returns
unfolding billed
returns c =
    rw ((kept (free c.before.before.before.before).reads tt).eq, (kept (due c.before.before.before.before).reads tt).eq, (arg (amount-within c.requires.1.1) tt).eq)
