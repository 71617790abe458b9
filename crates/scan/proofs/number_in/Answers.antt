-- The answer is that of the number so far with the digits that are left.
use Rattle.std.proofs.Common.{sym, ap, ◌∙◌, ◌+◌, get_or, drop, arith}
use borrow.Author.Tests.{le-leb, lt-leb}
use Rattle.scan.specs.Text.{most, with_digit, number_from}
use Rattle.scan.specs.TextLaws.{number_more, number-no-digit, number-too-large, number-end}
use Rattle.scan.proofs.number_in.Goals as goal

pub returns-then-not-is_ascii_digit : goal.returns-then-not-is_ascii_digit
returns-then-not-is_ascii_digit c =
    let l = c.loop-byte in
    sym (l.invariant ∙ number-no-digit _ _ _ c.loop-byte-test.true (sym c.is_ascii_digit.ensures.value ∙ c.if-not-is_ascii_digit.true))

pub returns-in_err-number : goal.returns-in_err-number
returns-in_err-number c =
    let l = c.loop-byte in
    let digits = c.args.digits.now in
    c.from_residual.ensures ∙ sym (l.invariant
    ∙ number-too-large digits l.number l.byte-index c.loop-byte-test.true
    (lt-leb (with_digit l.number (get_or digits l.byte-index 0)) most (omega (arith, c.in_err-number.ensures))))

pub loop-byte-preserved : goal.loop-byte-preserved
loop-byte-preserved c =
    let l = c.loop-byte in
    let digits = c.args.digits.now in
    let byte = get_or digits l.byte-index 0 in
    l.invariant
    ∙ number_more digits l.number l.byte-index c.loop-byte-test.true (sym c.is_ascii_digit.ensures.value ∙ c.if-not-is_ascii_digit.false)
    (le-leb (with_digit l.number byte) most (omega (arith, c.in_ok-number.ensures)))
    ∙ ap (λ n. number_from n (drop (l.byte-index + 1) digits)) (omega (arith, c.in_ok-number.ensures))

pub returns : goal.returns
returns c =
    let l = c.loop-byte in
    sym (l.invariant ∙ number-end c.args.digits.now l.number l.byte-index c.loop-byte-test.false)
