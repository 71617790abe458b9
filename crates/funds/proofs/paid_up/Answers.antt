use lib.IntN.{◌+ℤ◌, ◌-ℤ◌}
use Rattle.whole.specs.Machine.{Got, got, arg, kept, fits, add, sub}
use Rattle.funds.specs.Funds.{paid_up}
use Rattle.funds.specs.BoundLaws.{cash-within, margin-within}
use Rattle.funds.proofs.paid_up.Goals as goal
use Rattle.funds.proofs.paid_up.Goals.{Start}

abbrev cash : (s : Start) → Got 3005824000000000000 (s.args.f.cash -ℤ s.args.called)
cash s = got (sub (arg (cash-within s.requires.0) tt) (arg s.requires.1 tt))

abbrev called : (s : Start) → Got 3005824000000000000 (s.args.f.margin +ℤ s.args.called)
called s = got (add (arg (margin-within s.requires.0) tt) (arg s.requires.1 tt))

abbrev margin : (s : Start) → Got 3940992000000000000 ((s.args.f.margin +ℤ s.args.called) +ℤ s.args.f.due)
margin s = got (add (kept (called s).reads tt) (arg s.requires.0.due tt))

pub overflow_sub-x : goal.overflow_sub-x
overflow_sub-x c = fits (cash c.before.before.before.before).reads tt

pub overflow_add-x : goal.overflow_add-x
overflow_add-x c = fits (called c.before.before.before.before.before).reads tt

pub overflow_add-x-2 : goal.overflow_add-x-2
overflow_add-x-2 c = fits (margin c.before.before.before.before.before).reads tt

pub returns : goal.returns
unfolding paid_up
returns c =
    rw ((kept (cash c.before.before.before.before.before).reads tt).eq, (kept (margin c.before.before.before.before.before).reads tt).eq, (arg c.requires.1 tt).eq, (arg c.requires.0.due tt).eq)
