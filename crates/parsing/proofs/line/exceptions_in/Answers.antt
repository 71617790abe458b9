-- The exceptions so far stand one after the other, and in the list.
use Rattle.std.proofs.Common.{◌≡◌, ◌∙◌, ◌<◌, length, take, add-one, arith, length-append, length-drop}
use Rattle.std.specs.Prelude.{ℕ, Result, Err}
use Rattle.std.proofs.lemmas.Result.{err_from_is_err_and}
use Rattle.std.proofs.Math.ListN.{length-set}
use Rattle.std.proofs.Math.Seq.{take-suc-set}
use Rattle.std.proofs.lemmas.List.{length-take-le}
use Rattle.wording.specs.Text.{exception_text}
use Rattle.parsing.specs.PlaceLaws.{passed_none, passed-more, passed-stuck}
use Rattle.parsing.specs.WordLaws.{exceptions-spaced}
use Rattle.parsing.proofs.line.exceptions_in.Goals as goal
use Rattle.parsing.proofs.line.exceptions_in.Goals.{After-exception_at}

-- the list has room for one more
room : (c : After-exception_at) → length c.loop-i.slot-items ≡ c.args.n
room c = c.loop-i.auto.slot-items ∙ length-take-le c.args.n c.args.list.now c.requires.1

some : (c : After-exception_at) → length (take c.loop-i.i c.loop-i.slot-items) < c.args.n
some c = omega (arith, room c, length-take-le c.loop-i.i c.loop-i.slot-items (omega (arith, room c)))

pub loop-i-init : goal.loop-i-init
loop-i-init c = let a = c.args in passed_none (λ _. exception_text) a.n a.line.now a.at c.requires.0

pub returns-in_err-number : goal.returns-in_err-number
returns-in_err-number c =
    let e = (goal.at.returns-in_err-number c).After-exception_at in
    let a = c.args in
    let l = c.loop-i in
    let p = err_from_is_err_and c.from_residual.result c.from_residual.ensures.1 in
    let none = c.in_err-number.ensures.ok_part in
    let said : ◌≡◌ {A = Result (ℕ × ℕ) ℕ} (Err c.in_err-number.field-0.0) (Err l.i) = rw none at c.in_err-number.ensures.value in
    let missing : c.in_err-number.field-0.0 ≡ l.i = cc in (
      rw (p.1, p.2, missing) (
        omega (arith, room e),
        passed-stuck (λ _. exception_text) a.n a.line.now a.at l.place (take l.i l.slot-items) (exceptions-spaced a.n) l.invariant (some e)
            (rw none at c.exception_at.ensures),
      ),
      simp (length-append, length-set, length-drop) (omega (arith, room e)),
    )

pub loop-i-preserved : goal.loop-i-preserved
loop-i-preserved c =
    let e = (goal.at.loop-i-preserved c).After-exception_at in
    let a = c.args in
    let l = c.loop-i in
    rw (add-one l.i, take-suc-set l.slot-items l.i c.in_ok-number.number (omega (arith, room e)))
    (passed-more (λ _. exception_text) a.n a.line.now a.at l.place (take l.i l.slot-items) (exceptions-spaced a.n) l.invariant (some e)
    c.in_ok-number.number c.in_ok-number.next (rw c.in_ok-number.ensures.ok_part at c.exception_at.ensures))
