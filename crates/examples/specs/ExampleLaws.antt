-- Document 01's printed day and its twelve marked examples, computed part by part.
use Rattle.std.specs.Prelude.{◌≡◌, refl, true, List, [], ◌∷◌, ℕ, pos}
use Rattle.std.proofs.Common.{sym, arith}
use Rattle.lists.specs.Has.{has, place_of}
use Rattle.lists.specs.Passing.{all}
use Rattle.lists.specs.Zipped.{zipped}
use Rattle.lists.specs.Those.{those}
use Rattle.whole.specs.Sums.{sum_z}
use Rattle.whole.specs.Larger.{larger}
use Rattle.whole.specs.Round.{hundredth_up}
use Rattle.days.specs.Days.{rising, is_weekend, is_exception, is_working, first_working, last_working}
use Rattle.months.specs.Months.{is_code, month_of, code_of, month_length, first_day, third_wednesday, settlement_day, last_trading_day}
use Rattle.calendar.specs.Listing.{listing}
use Rattle.calendar.specs.Choosing.{considered}
use Rattle.calendar.specs.ChoosingLaws.{chosen_after, computed-listing}
use Rattle.calendar.specs.Examples as calendar
use Rattle.calendar.specs.Examples.{plain}
use Rattle.numbers.specs.Seven.{unbounded}
use Rattle.numbers.specs.Examples as numbers
use Rattle.folding.specs.Fold.{folded, unfolded}
use Rattle.fields.specs.Fields.{ceilings, kinds}
use Rattle.ranges.specs.Ranges.{all_within}
use Rattle.records.specs.Records.{reading}
use Rattle.records.specs.Examples as records
use Rattle.tallies.specs.Day as day
use Rattle.tallies.specs.Means.{mean_of, total}
use Rattle.tallies.specs.Tally.{tally_from, in_day}
use Rattle.rates.specs.Rules.{rule_at}
use Rattle.rates.specs.Settling.{settled_from}
use Rattle.rates.specs.Examples as rates
use Rattle.totals.specs.Totals as positions
use Rattle.booking.specs.Variation.{variation_at, variation}
use Rattle.booking.specs.Carried.{all_carried}
use Rattle.holdings.specs.Holdings.{new_holdings}
use Rattle.holdings.specs.Limits.{totals_of, is_over}
use Rattle.holdings.specs.LimitLaws as holdings
use Rattle.closing.specs.DayEnd.{at_close, over_limit, requirement, with_core}
use Rattle.funds.specs.Funds as funds
use Rattle.accounts.specs.Accounts.{closed}
use Rattle.model.specs.Book.{new}
use Rattle.model.specs.Calls.{call_of}
use Rattle.model.specs.Effects.{after}
use Rattle.model.specs.Refusals.{first_of, refusal}
use Rattle.model.specs.Entries.{settles, closes}
use Rattle.model.proofs.CourseLaws.{after_all, steps_of, refusals, Course, Runs, further, further-runs, opened, opened-runs, at_start, start-runs}
use Rattle.model.specs.Examples.{enrol_and_pay, settle_and_trade, lines_to, PrintedDay, Marked}

-- ---- part by part: each call passes
abbrev pub six : List ℕ
six = 2309 ∷ 2310 ∷ 2311 ∷ 2312 ∷ 2403 ∷ 2406 ∷ []

pub listing-1339 : listing plain 1339 ≡ record { known = true; codes = six }
unfolding is_working is_exception is_weekend first_working code_of month_length first_day third_wednesday settlement_day considered chosen_after
listing-1339 = sym (computed-listing plain 1339 54 (omega arith) refl)

pub listing-1342 : listing plain 1342 ≡ record { known = true; codes = six }
unfolding is_working is_exception is_weekend first_working code_of month_length first_day third_wednesday settlement_day considered chosen_after
listing-1342 = sym (computed-listing plain 1342 54 (omega arith) refl)

abbrev at_pay : Course
at_pay = further enrol_and_pay at_start

pay-runs : Runs at_pay
unfolding has all rising ceilings kinds all_within funds.new_funds funds.paid_in new call_of after after_all first_of refusal refusals
pay-runs = further-runs enrol_and_pay at_start start-runs refl

abbrev at_open : Course
at_open = opened six 1339 (pos 23000) 3000000 at_pay

open-runs : Runs at_open
unfolding all rising is_weekend is_exception is_working folded unfolded ceilings kinds all_within call_of after after_all first_of refusal
open-runs = opened-runs six 1339 (pos 23000) 3000000 at_pay pay-runs listing-1339 (rw listing-1339)

abbrev at_trade : Course
at_trade = further settle_and_trade at_open

trade-runs : Runs at_trade
unfolding has place_of all zipped sum_z rising folded unfolded ceilings kinds all_within positions.total new_holdings totals_of is_over funds.new_funds funds.paid_up funds.settled funds.paid_in new call_of after after_all first_of refusal refusals
trade-runs = further-runs settle_and_trade at_open open-runs refl

abbrev at_closed : Course
at_closed = further (closes (pos 0) ∷ []) at_trade

close-runs : Runs at_closed
unfolding all rising folded unfolded ceilings kinds all_within call_of after after_all first_of refusal refusals
close-runs = further-runs (closes (pos 0) ∷ []) at_trade trade-runs refl

abbrev at_next : Course
at_next = opened six 1342 (pos 23000) 3000000 at_closed

next-runs : Runs at_next
unfolding all rising is_weekend is_exception is_working first_working folded unfolded ceilings kinds all_within call_of after after_all first_of refusal
next-runs = opened-runs six 1342 (pos 23000) 3000000 at_closed close-runs listing-1342 (rw listing-1342)

abbrev at_settle : Course
at_settle = further (settles ∷ []) at_next

settle-runs : Runs at_settle
unfolding all rising kinds all_within call_of after_all first_of refusal refusals
settle-runs = further-runs (settles ∷ []) at_next next-runs refl

pub printed-day : PrintedDay
unfolding lines_to steps_of has place_of zipped sum_z those larger hundredth_up folded unfolded is_weekend is_exception is_working first_working last_working is_code month_of month_length first_day third_wednesday settlement_day last_trading_day day.in_last_hour mean_of total tally_from in_day rule_at settled_from positions.total variation_at variation all_carried new_holdings at_close over_limit requirement with_core funds.new_funds funds.billed funds.paid_up funds.settled funds.paid_in closed new call_of after after_all
printed-day = rw close-runs.answers

pub marked : Marked
unfolding has place_of all zipped sum_z those larger hundredth_up rising is_weekend is_exception is_working first_working last_working is_code month_of month_length first_day third_wednesday settlement_day last_trading_day unbounded folded unfolded ceilings kinds all_within reading day.in_last_hour mean_of total tally_from in_day rule_at settled_from positions.total variation_at variation all_carried new_holdings totals_of is_over at_close over_limit requirement funds.new_funds funds.billed funds.paid_up funds.settled funds.paid_in closed new call_of after first_of refusal after_all
marked = record {
  trade-bytes = records.example-1;
  shortest = (numbers.example-2-refused, refl, numbers.example-2-zero);
  settles_on = calendar.example-3;
  last-trades-on = calendar.example-4;
  lists = calendar.example-5;
  half_up = rates.example-6;
  half-below-zero = rates.example-7;
  mean-quotes = rates.example-8;
  next-settle = rw settle-runs.books (refl, refl, refl);
  second-purchase = rw trade-runs.books (refl, refl);
  over-limit = holdings.example-11;
  trade-hours = rw trade-runs.books (refl, refl);
  quote-hours = rw trade-runs.books (refl, refl);
}
