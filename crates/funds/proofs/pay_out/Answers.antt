use mathlib.Core.Path.{sym, ap, ◌∙◌}
use lib.IntN.{◌-ℤ◌}
use Rattle.whole.specs.Machine.{Got, got, arg, kept, fits, sub}
use Rattle.whole.specs.Tests.{lt_yes, lt_no}
use Rattle.whole.specs.Amounts.{amount-within}
use Rattle.funds.specs.Funds.{with_money}
use Rattle.funds.specs.FundsLaws.{paid-out-default, paid-out-more, paid-out-made}
use Rattle.std.specs.Prelude.{Ok}
use Rattle.funds.specs.BoundLaws.{cash-within}
use Rattle.funds.proofs.pay_out.Goals as goal
use Rattle.funds.proofs.pay_out.Goals.{Start}

abbrev left : (s : Start) → Got 1970436000000000000 (s.args.f.cash -ℤ s.args.amount)
left s = got (sub (arg (cash-within s.requires.0) tt) (arg (amount-within s.requires.1) tt))

pub returns-then-f : goal.returns-then-f
returns-then-f c = sym (paid-out-default c.args.f c.args.amount c.if-f.true)

pub returns-then-cash-amount : goal.returns-then-cash-amount
returns-then-cash-amount c =
    let more = lt_yes (arg (cash-within c.requires.0) tt).eq (arg (amount-within c.requires.1) tt).eq c.if-cash-amount.true in
    sym (paid-out-more c.args.f c.args.amount c.if-f.false more)

pub overflow_sub-x : goal.overflow_sub-x
overflow_sub-x c = fits (left c.before.before.before).reads tt

pub returns : goal.returns
returns c =
    let enough = lt_no (arg (cash-within c.requires.0) tt).eq (arg (amount-within c.requires.1) tt).eq c.if-cash-amount.false in
    ap (λ cash. Ok (with_money c.args.f cash c.args.f.margin)) (kept (left c.before.before.before).reads tt).eq
    ∙ sym (paid-out-made c.args.f c.args.amount c.if-f.false enough)
