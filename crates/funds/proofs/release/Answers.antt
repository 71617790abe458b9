use mathlib.Core.Path.{sym, ap₂, ◌∙◌}
use lib.IntN.{◌+ℤ◌, ◌-ℤ◌}
use Rattle.whole.specs.Machine.{Got, got, arg, kept, fits, add, sub}
use Rattle.whole.specs.Tests.{lt_yes, lt_no}
use Rattle.whole.specs.Amounts.{amount-within}
use Rattle.funds.specs.Funds.{with_money}
use Rattle.funds.specs.FundsLaws.{released-default, released-more, released-made}
use Rattle.std.specs.Prelude.{Ok}
use Rattle.funds.specs.BoundLaws.{cash-within, margin-within}
use Rattle.funds.proofs.release.Goals as goal
use Rattle.funds.proofs.release.Goals.{Start}

-- what may be released, and what is then in cash and in margin
abbrev above : (s : Start) → Got 1970656000000000000 (s.args.f.margin -ℤ s.args.f.requirement)
above s = got (sub (arg (margin-within s.requires.0) tt) (arg (amount-within s.requires.0.requirement) tt))

abbrev cash : (s : Start) → Got 1970436000000000000 (s.args.f.cash +ℤ s.args.amount)
cash s = got (add (arg (cash-within s.requires.0) tt) (arg (amount-within s.requires.1) tt))

abbrev margin : (s : Start) → Got 1970436000000000000 (s.args.f.margin -ℤ s.args.amount)
margin s = got (sub (arg (margin-within s.requires.0) tt) (arg (amount-within s.requires.1) tt))

pub returns-then-f : goal.returns-then-f
returns-then-f c = sym (released-default c.args.f c.args.amount c.if-f.true)

pub overflow_sub-margin : goal.overflow_sub-margin
overflow_sub-margin c = fits (above c.before.before.before.before.before).reads tt

pub returns-then-margin-f : goal.returns-then-margin-f
returns-then-margin-f c =
    let more = lt_yes (kept (above c.before.before.before.before.before).reads tt).eq (arg (amount-within c.requires.1) tt).eq c.if-margin-f.true in
    sym (released-more c.args.f c.args.amount c.if-f.false more)

pub overflow_add-x : goal.overflow_add-x
overflow_add-x c = fits (cash c.before.before.before.before.before.before.before).reads tt

pub overflow_sub-x : goal.overflow_sub-x
overflow_sub-x c = fits (margin c.before.before.before.before.before.before.before).reads tt

pub returns : goal.returns
returns c =
    let e = c.before.before in
    let enough = lt_no (kept (above c.before.before.before.before.before.before.before).reads tt).eq (arg (amount-within c.requires.1) tt).eq c.if-margin-f.false in
    ap₂ (λ cash margin. Ok (with_money c.args.f cash margin)) (kept (cash c.before.before.before.before.before.before.before).reads tt).eq (kept (margin c.before.before.before.before.before.before.before).reads tt).eq
    ∙ sym (released-made c.args.f c.args.amount c.if-f.false enough)
