-- Each arm's call is the record's, by its kind, and what the callee asks is what the range check says of that call.
use mathlib.Core.Path.{◌≡◌}
use native.Mathlib.Omega.{arith}
use Rattle.fields.specs.FieldLaws.{none_below}
use Rattle.model.specs.Calls.{call_of}
use Rattle.book.specs.KindLaws.{amount-most}
use Rattle.book.proofs.calls.call_account.Goals as goal
use Rattle.book.proofs.calls.call_account.Goals.{In_default}

-- the last of the first kinds
six : (c : In_default) → c.args.kind ≡ 6
six c = let most = c.requires.1.1 in omega (arith, none_below 6 _ c.in_default.in_default-own.rest)

pub start-requires : goal.start-requires
unfolding call_of
start-requires c =
    let g = rw c.in-0.is at c.requires.1.0 in
    (c.requires.0, (g.rises, g.few))

pub limits_in-limits-requires : goal.limits_in-limits-requires
unfolding call_of
limits_in-limits-requires c = let g = rw c.in-1.is at c.requires.1.0 in amount-most g.limits.tolerance

pub enrol-requires : goal.enrol-requires
unfolding call_of
enrol-requires c =
    let g = rw c.in-1.is at c.requires.1.0 in
    (c.requires.0, rw c.limits_in-limits.ensures g.limits)

pub pay_in-requires : goal.pay_in-requires
unfolding call_of
pay_in-requires c =
    (c.requires.0, amount-most (rw c.in-2.is at c.requires.1.0))

pub pay_out-requires : goal.pay_out-requires
unfolding call_of
pay_out-requires c =
    (c.requires.0, amount-most (rw c.in-3.is at c.requires.1.0))

pub release-requires : goal.release-requires
unfolding call_of
release-requires c =
    (c.requires.0, amount-most (rw c.in-4.is at c.requires.1.0))

pub set_special-requires : goal.set_special-requires
unfolding call_of
set_special-requires c =
    (c.requires.0, amount-most (rw c.in-5.is at c.requires.1.0))

pub limits_in-limits-requires-in_default : goal.limits_in-limits-requires-in_default
unfolding call_of
limits_in-limits-requires-in_default c = let g = rw (six c) at c.requires.1.0 in amount-most g.tolerance

pub set_limits-requires : goal.set_limits-requires
unfolding call_of
set_limits-requires c =
    (c.requires.0, rw c.limits_in-limits-in_default.ensures (rw (six (goal.at.set_limits-requires c).In_default) at c.requires.1.0))

pub returns-in-0 : goal.returns-in-0
unfolding call_of
returns-in-0 c = rw c.in-0.is c.start.ensures

pub returns-in-1 : goal.returns-in-1
unfolding call_of
returns-in-1 c = rw c.in-1.is (rw c.limits_in-limits.ensures at c.enrol.ensures)

pub returns-in-2 : goal.returns-in-2
unfolding call_of
returns-in-2 c = rw c.in-2.is c.pay_in.ensures

pub returns-in-3 : goal.returns-in-3
unfolding call_of
returns-in-3 c = rw c.in-3.is c.pay_out.ensures

pub returns-in-4 : goal.returns-in-4
unfolding call_of
returns-in-4 c = rw c.in-4.is c.release.ensures

pub returns-in-5 : goal.returns-in-5
unfolding call_of
returns-in-5 c = rw c.in-5.is c.set_special.ensures

pub returns-in_default : goal.returns-in_default
unfolding call_of
returns-in_default c = rw (six (goal.at.returns-in_default c).In_default) (rw c.limits_in-limits-in_default.ensures at c.set_limits.ensures)
