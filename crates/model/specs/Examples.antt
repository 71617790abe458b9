-- Document 01's printed day and its twelve marked examples, as statements. The crate `examples` computes them.
use Rattle.std.specs.Prelude.{◌≡◌, true, false, List, [], ◌∷◌, ◌++◌, map, ℕ, ℤ, pos, neg_ℤ, Some}
use Rattle.months.specs.Months.{settlement_of, last_trading_of}
use Rattle.calendar.specs.Listing.{listing}
use Rattle.calendar.specs.Examples.{plain}
use Rattle.numbers.specs.Seven.{none, got, decode}
use Rattle.records.specs.Records.{Entry, writing}
use Rattle.records.specs.Reading.{reading_at}
use Rattle.records.specs.Outcomes.{outcome_of, refused_at}
use Rattle.tallies.specs.Day as day
use Rattle.rates.specs.Rules.{number_of, settled}
use Rattle.rates.specs.declared.Rule.TheVariants.{LastHour, Quotes}
use Rattle.rates.specs.declared.Settled.{Settled}
use Rattle.holdings.specs.Limits.{is_over}
use Rattle.holdings.specs.declared.Totals.{Totals}
use Rattle.model.specs.Refusals.{refusal}
use Rattle.model.specs.Answers.{Report, Answer, refused, not_next, done, both_sides, report, Refusal, refusal_of}
use Rattle.model.specs.History.{run, answers_to}
use Rattle.model.specs.Entries.{starts, enrols, pays_in, opens, trades, quotes, settles, closes}

-- ---- the records, the latest first
-- A printed day: "start 3,000,000, 100, none"
abbrev pub start : List Entry
start = starts 3000000 100 ∷ []

-- "enrol 1000001 and 1000002, limit 10, tolerance 0; each pays in 100,000,000"
abbrev pub enrol_and_pay : List Entry
enrol_and_pay = pays_in 1000002 100000000 ∷ pays_in 1000001 100000000 ∷ enrols 1000002 10 0 ∷ enrols 1000001 10 0 ∷ []

-- "open day 1339, list rates 23,000, margin rates 3,000,000; settle"
abbrev pub open_on : ℕ → Entry
open_on day = opens day (pos 23000) 3000000

-- "trade 34,200, 2312, 1000001, 1000002, 4, 23,100"
abbrev pub purchase : ℕ → ℕ → Entry
purchase time lots = trades time 2312 1000001 1000002 lots (pos 23100)

abbrev pub settle_and_trade : List Entry
settle_and_trade = purchase 34200 4 ∷ settles ∷ []

abbrev pub before_close : List Entry
before_close = settle_and_trade ++ (open_on 1339 ∷ (enrol_and_pay ++ start))

-- "close 0"
abbrev pub printed_day : List Entry
printed_day = closes (pos 0) ∷ before_close

-- day 1339 is a Friday, and the next working day is 1342
abbrev pub next_settle : List Entry
next_settle = settles ∷ open_on 1342 ∷ printed_day

-- ---- the printed day
-- "Per record: kind and `ok`, or kind, `no`, refusal"; "An accepted close adds the day, then per contract by code `rate`, code, rate, rule,
-- trades or counted quotes used ..; per account by number `account`, account, day's variation, due, requirement, free; then `house` and its
-- balance."
pub data Line : Type 0 where
  ok : ℕ → Line
  not-ok : ℕ → Refusal → Line
  ok-on : ℕ → ℕ → Line
  rate : ℕ → ℤ → ℕ → ℕ → Line
  account : ℕ → ℤ → ℤ → ℤ → ℤ → Line
  house : ℤ → Line

abbrev rate_line : Report → ℕ → Line
rate_line r c = rate c (r.settled c).rate (number_of (r.settled c).rule) (r.settled c).used

abbrev account_line : Report → ℕ → Line
account_line r n = account n (r.bill n).variation (r.bill n).due (r.bill n).requirement (r.bill n).free

-- accounts in the order in which they enrolled, which is here that of their numbers
abbrev pub lines_of : ℕ → Answer → List Line
lines_of kind (refused n) = not-ok kind (refusal_of (refused n)) ∷ []
lines_of kind (not_next d) = not-ok kind (refusal_of (not_next d)) ∷ []
lines_of kind done = ok kind ∷ []
lines_of kind (both_sides buyer seller) = ok kind ∷ []
lines_of kind (report r) = ok-on kind r.day ∷ (map (rate_line r) r.codes ++ map (account_line r) r.members ++ (house r.house ∷ []))

unfoldable pub lines_to : List Entry → List Answer → List Line
lines_to [] answers = []
lines_to (e ∷ h) [] = []
lines_to (e ∷ h) (a ∷ answers) = lines_to h answers ++ lines_of e.kind a

abbrev pub printed : List Entry → List Line
printed h = lines_to h (answers_to h)

-- the lines of document 01
abbrev pub PrintedDay : Type 0
PrintedDay =
    printed printed_day
    ≡ ok 0 ∷ ok 1 ∷ ok 1 ∷ ok 2 ∷ ok 2 ∷ ok 7 ∷ ok 10 ∷ ok 8 ∷ ok-on 12 1339
    ∷ rate 2309 (pos 23000) 4 0
    ∷ rate 2310 (pos 23000) 4 0
    ∷ rate 2311 (pos 23000) 4 0
    ∷ rate 2312 (pos 23000) 4 0
    ∷ rate 2403 (pos 23000) 4 0
    ∷ rate 2406 (pos 23000) 4 0
    ∷ account 1000001 (neg_ℤ (pos 100000)) (neg_ℤ (pos 100000)) (pos 30000000) (neg_ℤ (pos 30100000))
    ∷ account 1000002 (pos 100000) (pos 100000) (pos 30000000) (neg_ℤ (pos 29900000))
    ∷ house (pos 0)
    ∷ []

-- ---- the twelve marked examples
-- trades and quotes in the last hour
abbrev trade_of : ℕ → ℤ → day.Trade
trade_of lots r = record { time = day.window_start; lots = lots; rate = r }

abbrev quote_of : ℕ → ℤ → day.Quote
quote_of s r = record { time = day.window_start; side = s; rate = r }

-- on a day that is not the contract's last
abbrev rated_by : List day.Trade → List day.Quote → Settled
rated_by trades quotes = settled trades quotes (pos 0) false (pos 0)

abbrev five_trades : ℤ → List day.Trade
five_trades r = trade_of 2 r ∷ trade_of 1 r ∷ trade_of 1 (pos 0) ∷ trade_of 1 (pos 0) ∷ trade_of 1 (pos 0) ∷ []

abbrev side : ℕ → ℕ → ℕ → Totals
side before after limit = record { before = pos before; after = pos after; limit = pos limit }

pub record Marked : Type 0 where
  -- 1. "The trade above is 08 98 8B 02 88 12 C1 84 3D C2 84 3D 04 F8 E8 02."
  pub trade-bytes : writing (purchase 34200 4)
      ≡ 0x08 ∷ 0x98 ∷ 0x8B ∷ 0x02 ∷ 0x88 ∷ 0x12 ∷ 0xC1 ∷ 0x84 ∷ 0x3D ∷ 0xC2 ∷ 0x84 ∷ 0x3D ∷ 0x04 ∷ 0xF8 ∷ 0xE8 ∷ 0x02 ∷ []
  -- 2. "80 00 is refused; 00 is zero."
  pub shortest :
      (decode (0x80 ∷ 0x00 ∷ []) ≡ none)
      × (outcome_of (reading_at (0x80 ∷ 0x00 ∷ []) 0) ≡ refused_at 1 0)
      × (decode (0x00 ∷ []) ≡ got 0 [])
  -- 3. "2309 settles on day 1358."
  pub settles_on : settlement_of plain 2309 ≡ Some 1358
  -- 4. "Its last trading day is 1357."
  pub last-trades-on : last_trading_of plain 2309 ≡ Some 1357
  -- 5. "Without exceptions, day 1386 lists 2311, 2312, 2401, 2403, 2406, 2409."
  pub lists : listing plain 1386 ≡ record { known = true; codes = 2311 ∷ 2312 ∷ 2401 ∷ 2403 ∷ 2406 ∷ 2409 ∷ [] }
  -- 6. "Lots 2 at 1, 1 at 1, three of 1 at 0: mean 0.5, rate 1."
  pub half_up : rated_by (five_trades (pos 1)) [] ≡ record { rate = pos 1; rule = LastHour; used = 5 }
  -- 7. "The same with -1: rate -1." Request L1: "Marked example 7 becomes 0."
  pub half-below-zero : rated_by (five_trades (neg_ℤ (pos 1))) [] ≡ record { rate = pos 0; rule = LastHour; used = 5 }
  -- 8. "Bids 10, 11, offer 12: 11.25, rate 11."
  pub mean-quotes :
      rated_by [] (quote_of 0 (pos 10) ∷ quote_of 0 (pos 11) ∷ quote_of 1 (pos 12) ∷ []) ≡ record { rate = pos 11; rule = Quotes; used = 3 }
  -- 9. "Next settle above: account 1000001 has cash 69,900,000, margin 30,000,000, due 0."
  pub next-settle : let f = (run next_settle).accounts.funds 1000001 in
      (f.cash ≡ pos 69900000) × (f.margin ≡ pos 30000000) × (f.due ≡ pos 0)
  -- 10. "Above, before the close, a second purchase of 2312 by 1000001 from 1000002 of 6 lots passes; of 7 is refused 14."
  pub second-purchase : (refusal (run before_close) (purchase 34200 6) ≡ 0) × (refusal (run before_close) (purchase 34200 7) ≡ 14)
  -- 11. "A side with total 12,000,000 before, 9,000,000 after and limit 6,000,000 is not over the limit; with 12,000,001 after it is."
  pub over-limit : (is_over (side 12000000 9000000 6000000) ≡ false) × (is_over (side 12000000 12000001 6000000) ≡ true)
  -- 12. "Time 43,200 is refused 10; 43,199 passes."
  pub trade-hours : (refusal (run before_close) (purchase 43200 1) ≡ 10) × (refusal (run before_close) (purchase 43199 1) ≡ 0)
  pub quote-hours :
      (refusal (run before_close) (quotes 43200 2312 0 (pos 23100)) ≡ 10)
      × (refusal (run before_close) (quotes 43199 2312 0 (pos 23100)) ≡ 0)
