use mathlib.Core.Path.{refl, sym, ap, ◌∙◌}
use lib.IntN.{◌+ℤ◌}
use Rattle.whole.specs.Machine.{Got, got, arg, kept, fits, add}
use Rattle.whole.specs.Tests.{lt_yes, lt_no}
use Rattle.whole.specs.Amounts.{amount-within}
use Rattle.funds.specs.Funds.{with_money, cash_most}
use Rattle.funds.specs.FundsLaws.{paid-in-full, paid-in-made}
use Rattle.std.specs.Prelude.{Ok}
use Rattle.funds.specs.BoundLaws.{cash-within, margin-within}
use Rattle.funds.proofs.pay_in.Goals as goal
use Rattle.funds.proofs.pay_in.Goals.{Start}

abbrev cash : (s : Start) → Got 1970436000000000000 (s.args.f.cash +ℤ s.args.amount)
cash s = got (add (arg (cash-within s.requires.0) tt) (arg (amount-within s.requires.1) tt))

abbrev both : (s : Start) → Got 3940772000000000000 ((s.args.f.cash +ℤ s.args.amount) +ℤ s.args.f.margin)
both s = got (add (kept (cash s).reads tt) (arg (margin-within s.requires.0) tt))

pub overflow_add-cash : goal.overflow_add-cash
overflow_add-cash c = fits (cash c.before.before.before).reads tt

pub overflow_add-cash-2 : goal.overflow_add-cash-2
overflow_add-cash-2 c = fits (both c.before.before.before.before.before).reads tt

pub returns-then-cash-f-gt-CASH_MOST : goal.returns-then-cash-f-gt-CASH_MOST
returns-then-cash-f-gt-CASH_MOST c =
    sym (paid-in-full c.args.f c.args.amount (lt_yes {e = cash_most} refl (kept (both c.before.before.before.before.before).reads tt).eq c.if-cash-f-gt-CASH_MOST.true))

pub returns : goal.returns
returns c =
    ap (λ cash. Ok (with_money c.args.f cash c.args.f.margin)) (kept (cash c.before.before.before.before.before).reads tt).eq
    ∙ sym (paid-in-made c.args.f c.args.amount (lt_no {e = cash_most} refl (kept (both c.before.before.before.before.before).reads tt).eq c.if-cash-f-gt-CASH_MOST.false))
