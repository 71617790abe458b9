-- A record out of range is refused; one in range goes to its group, whose answer is the book's.
use mathlib.Core.Path.{◌≡◌, sym, ap, ◌∙◌, subst}
use Rattle.ranges.specs.Ranges.{refusal_of}
use Rattle.records.specs.Records.{entry}
use Rattle.model.specs.Refusals.{ranged}
use Rattle.model.specs.Ranged.{Ranged}
use Rattle.model.proofs.RangeLaws.{ranges}
use Rattle.book.specs.declared.calls.Answer.TheVariants.{Done}
use Rattle.book.specs.CalledLaws.{made-answered, answered-called}
use Rattle.book.specs.KindLaws.{first_done, later_same, checked_refused}
use Rattle.book.proofs.calls.call.Goals as goal
use Rattle.book.proofs.calls.call.Goals.{In_default}

passed : (c : In_default) → let a = c.args in
    ranged (entry a.kind a.fields a.exceptions.now) ≡ 0
passed c = ap refusal_of (sym c.in_range.ensures ∙ c.in_default.is)

pub returns-in-Err : goal.returns-in-Err
returns-in-Err c =
    rw c.number.ensures (checked_refused c.requires _ _ _ (sym c.in_range.ensures ∙ c.in-Err.is))

pub call_account-requires : goal.call_account-requires
call_account-requires c =
    (c.requires, (ranges _ (passed (goal.at.call_account-requires c).In_default), c.if-kind-le6.true))

pub returns-then-kind-le6 : goal.returns-then-kind-le6
returns-then-kind-le6 c =
    let most = c.if-kind-le6.true in
    answered-called c.requires _ (passed (goal.at.returns-then-kind-le6 c).In_default)
    (let f = first_done _ _ _ _ most in rw c.numbered.ensures (made-answered Done f.1 (sym f.0) c.call_account.ensures))

pub call_day-requires : goal.call_day-requires
call_day-requires c =
    let a = c.args in
    let least = c.if-kind-le6.false in
    (c.requires, (subst Ranged (later_same a.kind a.fields a.exceptions.now least) (ranges _ (passed (goal.at.call_day-requires c).In_default)), least))

pub returns : goal.returns
returns c =
    answered-called c.requires _ (passed (goal.at.returns c).In_default)
    (rw (later_same _ _ _ c.if-kind-le6.false) c.call_day.ensures)
