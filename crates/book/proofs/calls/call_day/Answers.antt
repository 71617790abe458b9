-- Each arm's call is the record's, by its kind, and what the callee asks is what the range check says of that call.
use mathlib.Core.Path.{◌≡◌, refl}
use native.Mathlib.Nat.{suc-ne-zero}
use native.Mathlib.Omega.{arith}
use Rattle.whole.specs.Machine.{told}
use Rattle.model.specs.Calls.{call_of}
use Rattle.book.specs.declared.calls.Answer.TheVariants.{Done, Closed}
use Rattle.book.specs.CalledLaws.{made-answered, traded-dealt, open-answered}
use Rattle.book.specs.KindLaws.{kind-most}
use Rattle.book.proofs.calls.call_day.Goals as goal
use Rattle.book.proofs.calls.call_day.Goals.{In_default}

-- the last kind
twelve : (c : In_default) → c.args.kind ≡ 12
twelve c =
    let r = c.in_default.in_default-own.rest in
    omega (arith, c.requires.1.1, kind-most _ _ _ c.requires.1.0, r.0.0.0.0.1, r.0.0.0.1, r.0.0.1, r.0.1, r.1)

pub trade-requires : goal.trade-requires
unfolding call_of
trade-requires c =
    (c.requires.0, rw c.deal_in-t.ensures (rw c.in-8.is at c.requires.1.0))

pub quote-requires : goal.quote-requires
unfolding call_of
quote-requires c =
    let u = c.unfold-rate in
    (c.requires.0, rw (told u.result u.type_inv, u.ensures) (rw c.in-9.is at c.requires.1.0))

pub close-requires : goal.close-requires
unfolding call_of
close-requires c =
    let u = c.unfold-last in
    (c.requires.0, rw (told u.result u.type_inv, u.ensures) (rw (twelve (goal.at.close-requires c).In_default) at c.requires.1.0))

pub returns-in-7 : goal.returns-in-7
unfolding call_of
returns-in-7 c =
    let rates = c.rates_in-rates.ensures in
    let margins = c.margins_in-margins.ensures in
    rw (c.in-7.is, c.opened.ensures)
    (open-answered c.open_day.result (rw (rates, margins) at c.open_day.ensures))

pub returns-in-8 : goal.returns-in-8
unfolding call_of
returns-in-8 c =
    rw (c.in-8.is, c.dealt.ensures)
    (traded-dealt c.trade.result (rw c.deal_in-t.ensures at c.trade.ensures))

pub returns-in-9 : goal.returns-in-9
unfolding call_of
returns-in-9 c =
    let u = c.unfold-rate in
    rw (c.in-9.is, c.numbered.ensures)
    (made-answered Done (λ o q. suc-ne-zero 0 cc) refl (rw (told u.result u.type_inv, u.ensures) at c.quote.ensures))

pub returns-in-10 : goal.returns-in-10
unfolding call_of
returns-in-10 c = rw (c.in-10.is, c.numbered-in-10.ensures) (made-answered Done (λ o q. suc-ne-zero 0 cc) refl c.settle.ensures)

pub returns-in-11 : goal.returns-in-11
unfolding call_of
returns-in-11 c = rw (c.in-11.is, c.numbered-in-11.ensures) (made-answered Done (λ o q. suc-ne-zero 0 cc) refl c.refresh.ensures)

pub returns-in_default : goal.returns-in_default
unfolding call_of
returns-in_default c =
    let u = c.unfold-last in
    rw (twelve (goal.at.returns-in_default c).In_default, c.numbered-in_default.ensures)
    (made-answered Closed (λ o q. suc-ne-zero 0 cc) refl (rw (told u.result u.type_inv, u.ensures) at c.close.ensures))
