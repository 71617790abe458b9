-- The exceptions announced are read, and the line ends there.
use Rattle.std.proofs.Common.{◌≡◌, refl, ◌∙◌, ◌≤◌, length, take, arith, rules}
use Rattle.std.proofs.lemmas.List.{length-take-le}
use Rattle.std.proofs.lemmas.Result.{err_from_is_err_and}
use Rattle.parsing.specs.LineLaws.{tail-lacks, tail-longer, tail-ends, tail-only}
use Rattle.parsing.specs.declared.line.LineError.TheVariants.{NoException}
use Rattle.parsing.proofs.Mapped.{mapped_ok, mapped_err}
use Rattle.parsing.proofs.line.after_fields.Goals as goal

pub returns-in_err-last : goal.returns-in_err-last
returns-in_err-last c =
    let a = c.args in
    let p = err_from_is_err_and c.from_residual.result c.from_residual.ensures.1 in
    let m =
    mapped_err c.exceptions_in.result c.map_err.result _ c.map_err.ensures.cases c.in_err-last.field-0.0
    (λ i e. e ≡ NoException a.kind a.announced i) (λ i e k. search rules) c.in_err-last.was in
    let lacking = rw m.1 at c.exceptions_in.ensures.0 in
    rw (p.1, p.2, m.2) (
      ((refl, refl, lacking.0), tail-lacks a.line.now a.at a.announced lacking.1),
      c.exceptions_in.ensures.1 ∙ c.requires.1,
    )

pub returns-then-last-line : goal.returns-then-last-line
returns-then-last-line c =
    let n = c.args.announced in
    let list = c.exceptions_in.new.list in
    let few : n ≤ length list = omega (arith, c.exceptions_in.ensures.1, c.requires.1, c.if-announced-gt-EXCEPTIONS.false) in
    let read = mapped_ok c.exceptions_in.result c.map_err.result _ c.map_err.ensures.cases c.in_ok-last.last c.in_ok-last.was in (
      (
        refl,
        tail-longer c.args.line.now c.args.at n c.in_ok-last.last (take n list)
            (rw read at c.exceptions_in.ensures.0) (length-take-le n list few) c.if-last-line.true,
      ),
      c.exceptions_in.ensures.1 ∙ c.requires.1,
    )

pub returns : goal.returns
returns c =
    let a = c.args in
    let n = a.announced in
    let list = c.exceptions_in.new.list in
    let last = c.in_ok-last.last in
    let few : n ≤ length list = omega (arith, c.exceptions_in.ensures.1, c.requires.1, c.if-announced-gt-EXCEPTIONS.false) in
    let p = rw (mapped_ok c.exceptions_in.result c.map_err.result _ c.map_err.ensures.cases last c.in_ok-last.was) at c.exceptions_in.ensures.0 in (
      record {
        few = c.if-announced-gt-EXCEPTIONS.false;
        text = tail-ends a.line.now a.at n last (take n list) p c.if-last-line.false;
        only = tail-only a.line.now a.at n last (take n list) p (length-take-le n list few);
      },
      c.exceptions_in.ensures.1 ∙ c.requires.1,
    )
