-- How long the lines are at most, where every number has room for all its digits.
use Rattle.std.specs.Prelude.{List, [], ◌∷◌, ◌++◌, ℕ, ◌*◌, ◌≤◌, ℤ, length}
use Rattle.std.proofs.Common.{le_trans, mul-le-mul_right, arith}
use Rattle.std.proofs.Math.ListN.{length-append}
use Rattle.lists.specs.Block.{block}
use Rattle.decimal.specs.Decimal.{numeral}
use Rattle.decimal.proofs.PutLaws.{numeral-length, signed-length}
use Rattle.rates.specs.Rules.{number_of}
use Rattle.rates.specs.declared.Settled.{Settled}
use Rattle.model.specs.Answers.{Bill, Report, report_of}
use Rattle.standing.specs.Standing.{view}
use Rattle.standing.specs.Made.{Sound}
use Rattle.standing.specs.StandingLaws.{sound-kept}
use Rattle.book.specs.Called.{answer_of}
use Rattle.book.specs.declared.calls.Answer.{Answer}
use Rattle.book.specs.declared.calls.Answer.TheVariants.{Refused, NotNext, Done, BothSides, Closed}
use Rattle.lines.specs.Lines.{ok, no, spaced, line, rate_line, account_line, house_line, in_order, code_lines, member_lines, report_lines, answer_text, bad_text}
use Rattle.lines.specs.OrderLaws.{in-order-length}
use Rattle.lines.specs.LineLaws.{block-short}

pub rate-length : (code : ℕ) (s : Settled) → length (rate_line code s) ≤ 96
unfolding spaced
rate-length code s = simp length-append
    (omega (arith, numeral-length code, signed-length s.rate, numeral-length (number_of s.rule), numeral-length s.used))

pub account-length : (number : ℕ) (b : Bill) → length (account_line number b) ≤ 120
unfolding spaced
account-length number b = simp length-append
    (omega (arith, numeral-length number, signed-length b.variation, signed-length b.due, signed-length b.requirement, signed-length b.free))

pub house-length : (balance : ℤ) → length (house_line balance) ≤ 30
unfolding spaced
house-length balance = simp length-append (omega (arith, signed-length balance))

pub bad-length : (place : ℕ) → length (bad_text place) ≤ 30
unfolding spaced
bad-length place = simp length-append (omega (arith, numeral-length place))

pub refusal-length : (kind number : ℕ) → length (numeral kind ++ spaced (no ∷ numeral number ∷ [])) ≤ 44
unfolding spaced
refusal-length kind number = simp length-append (omega (arith, numeral-length kind, numeral-length number))

pub closed-length : (kind day : ℕ) → length (line (numeral kind) (ok ∷ numeral day ∷ [])) ≤ 45
unfolding spaced
closed-length kind day = simp length-append (omega (arith, numeral-length kind, numeral-length day))

-- ---- as many lines as a sound memory's book has codes and accounts
rows-length : (line_of : ℕ → List ℕ) (w n : ℕ) (keys : List ℕ) → ((k : ℕ) → length (line_of k) ≤ w) → length keys ≤ n
    → length (block line_of (in_order keys)) ≤ n * w
rows-length line_of w n keys wide few =
    le_trans (block-short line_of w wide (in_order keys)) (mul-le-mul_right w (omega (arith, in-order-length keys)))

module _ {counts : List ℕ} {money : List ℤ} (s : Sound counts money) where
  abbrev shown : Report
  shown = report_of (view counts money)

  pub codes-length : length (code_lines shown) ≤ 576
  codes-length = rows-length _ 96 6 shown.codes (λ code. rate-length code (shown.settled code)) (sound-kept s).keys.few

  pub members-length : length (member_lines shown) ≤ 7680
  members-length = rows-length _ 120 64 shown.members (λ number. account-length number (shown.bill number)) (sound-kept s).sized.members

  pub report-length : length (report_lines shown) ≤ 8310
  report-length =
      rw (length-append (code_lines shown) (member_lines shown ++ house_line shown.house), length-append (member_lines shown) (house_line shown.house))
      (omega (arith, codes-length, members-length, house-length shown.house))

  pub answer-length : (kind : ℕ) (a : Answer) → length (answer_text kind (answer_of (view counts money) a)) ≤ 8400
  unfolding spaced
  answer-length kind (Refused number) = simp length-append (omega (arith, numeral-length kind, numeral-length number))
  answer-length kind (NotNext day) = simp length-append (omega (arith, numeral-length kind, numeral-length 20, numeral-length day))
  answer-length kind Done = simp length-append (omega (arith, numeral-length kind))
  answer-length kind (BothSides buyer seller) = simp length-append (omega (arith, numeral-length kind))
  answer-length kind Closed =
      rw (length-append (line (numeral kind) (ok ∷ numeral shown.day ∷ [])) (report_lines shown))
      (omega (arith, report-length, closed-length kind shown.day))
