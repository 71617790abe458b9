use mathlib.Core.Path.{refl, sym, ap, ◌∙◌}
use lib.IntN.{pos, +ℤ_idl}
use lib.Signed.{◌≤ℤ◌, ◌<ℤ◌}
use Rattle.whole.specs.Within.{lit, wider, within-neg}
use Rattle.whole.specs.Machine.{Got, got, now, arg, held, kept, fits, passed, sub}
use Rattle.whole.specs.Tests.{le_yes, le-no}
use Rattle.funds.specs.Funds.{need, paid_up}
use Rattle.funds.specs.FundsLaws.{settled-free, settled-called, settled-default}
use Rattle.funds.specs.BoundLaws.{cash-within}
use Rattle.funds.proofs.settled.Goals as goal
use Rattle.funds.proofs.settled.Goals.{Start}

pub paid_up-requires : goal.paid_up-requires
paid_up-requires c = (c.requires, wider (lit (pos 0)) tt)

pub returns-then-free-ge0 : goal.returns-then-free-ge0
returns-then-free-ge0 c =
    let enough : pos 0 ≤ℤ c.args.f.free =
    le_yes {e = pos 0} refl (arg c.requires.free tt).eq c.if-free-ge0.true in
    c.paid_up.ensures ∙ sym (settled-free c.args.f enough)

-- the need, as the machine holds it
abbrev called : (s : Start) → Got 1035488000000000000 (need s.args.f)
called s =
    let from = kept (sub (now (lit (pos 0))) (arg s.requires.free tt)) tt in
    got (held (from.eq ∙ +ℤ_idl (need s.args.f)) (within-neg s.requires.free))

pub overflow_sub-need : goal.overflow_sub-need
overflow_sub-need c = fits (sub (now (lit (pos 0))) (arg c.requires.free tt)) tt

pub paid_up-requires-then-need-f : goal.paid_up-requires-then-need-f
paid_up-requires-then-need-f c = (c.requires, passed (called c.before.before.before.before.before.before).reads)

pub returns-then-need-f : goal.returns-then-need-f
returns-then-need-f c =
    let low : c.args.f.free <ℤ pos 0 =
    le-no {e = pos 0} refl (arg c.requires.free tt).eq c.if-free-ge0.false in
    let covered = le_yes (called c.before.before.before.before.before.before).reads.eq (arg (cash-within c.requires) tt).eq c.if-need-f.true in
    c.paid_up-then-need-f.ensures
    ∙ ap (paid_up c.args.f) (called c.before.before.before.before.before.before).reads.eq
    ∙ sym (settled-called c.args.f low covered)

pub returns : goal.returns
returns c =
    let low : c.args.f.free <ℤ pos 0 =
    le-no {e = pos 0} refl (arg c.requires.free tt).eq c.if-free-ge0.false in
    let short = le-no (called c.before.before.before.before.before.before).reads.eq (arg (cash-within c.requires) tt).eq c.if-need-f.false in
    c.in_default.ensures ∙ sym (settled-default c.args.f low short)
