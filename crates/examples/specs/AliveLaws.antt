-- The living history, computed part by part.
use Rattle.std.specs.Prelude.{◌≡◌, refl, true, List, [], ◌∷◌, ℕ, pos}
use Rattle.std.proofs.Common.{sym, arith}
use Rattle.lists.specs.Has.{has, place_of}
use Rattle.lists.specs.Passing.{all}
use Rattle.lists.specs.Zipped.{zipped}
use Rattle.lists.specs.Those.{those}
use Rattle.whole.specs.Sums.{sum_z}
use Rattle.whole.specs.Larger.{larger}
use Rattle.whole.specs.Round.{hundredth_up}
use Rattle.days.specs.Days.{rising, is_weekend, is_exception, is_working, first_working, last_working}
use Rattle.months.specs.Months.{is_code, month_of, code_of, month_length, first_day, third_wednesday, settlement_day, last_trading_day}
use Rattle.calendar.specs.Listing.{listing}
use Rattle.calendar.specs.Choosing.{considered}
use Rattle.calendar.specs.ChoosingLaws.{chosen_after, computed-listing}
use Rattle.calendar.specs.Examples.{plain}
use Rattle.folding.specs.Fold.{folded, unfolded}
use Rattle.fields.specs.Fields.{ceilings, kinds}
use Rattle.ranges.specs.Ranges.{all_within}
use Rattle.tallies.specs.Means.{mean_of, total}
use Rattle.tallies.specs.Tally.{tally_from}
use Rattle.rates.specs.Rules.{rule_at}
use Rattle.rates.specs.Settling.{settled_from}
use Rattle.totals.specs.Totals as positions
use Rattle.booking.specs.Variation.{variation_at, variation}
use Rattle.booking.specs.Carried.{all_carried}
use Rattle.holdings.specs.Holdings.{new_holdings}
use Rattle.holdings.specs.Limits.{totals_of, is_over}
use Rattle.closing.specs.DayEnd.{at_close, over_limit, requirement, with_core}
use Rattle.funds.specs.Funds as funds
use Rattle.accounts.specs.Accounts.{closed}
use Rattle.model.specs.Book.{new}
use Rattle.model.specs.Calls.{call_of}
use Rattle.model.specs.Effects.{after}
use Rattle.model.specs.Refusals.{first_of, refusal}
use Rattle.model.specs.History as history
use Rattle.model.specs.History.{booked, moved_to, has_ended}
use Rattle.model.specs.Entries.{settles}
use Rattle.model.proofs.CourseLaws.{after_all, steps_of, refusals, Course, Runs, further, further-runs, opened, opened-runs, at_start, start-runs}
use Rattle.examples.specs.Alive.{enrol_and_pay, last_day, pay_and_close, Alive}

-- ---- part by part: each call passes
abbrev through1357 : List ℕ
through1357 = 2309 ∷ 2310 ∷ 2311 ∷ 2312 ∷ 2403 ∷ 2406 ∷ []

abbrev from1358 : List ℕ
from1358 = 2310 ∷ 2311 ∷ 2312 ∷ 2403 ∷ 2406 ∷ 2409 ∷ []

listing-1357 : listing plain 1357 ≡ record { known = true; codes = through1357 }
unfolding is_working is_exception is_weekend first_working code_of month_length first_day third_wednesday settlement_day considered chosen_after
listing-1357 = sym (computed-listing plain 1357 54 (omega arith) refl)

listing-1358 : listing plain 1358 ≡ record { known = true; codes = from1358 }
unfolding is_working is_exception is_weekend first_working code_of month_length first_day third_wednesday settlement_day considered chosen_after
listing-1358 = sym (computed-listing plain 1358 57 (omega arith) refl)

listing-1359 : listing plain 1359 ≡ record { known = true; codes = from1358 }
unfolding is_working is_exception is_weekend first_working code_of month_length first_day third_wednesday settlement_day considered chosen_after
listing-1359 = sym (computed-listing plain 1359 57 (omega arith) refl)

abbrev at_pay : Course
at_pay = further enrol_and_pay at_start

pay-runs : Runs at_pay
unfolding has all rising ceilings kinds all_within funds.new_funds funds.paid_in new call_of after after_all first_of refusal refusals
pay-runs = further-runs enrol_and_pay at_start start-runs refl

abbrev at1357 : Course
at1357 = opened through1357 1357 (pos 23000) 3000000 at_pay

runs-1357 : Runs at1357
unfolding all rising is_weekend is_exception is_working folded unfolded ceilings kinds all_within call_of after after_all first_of refusal
runs-1357 = opened-runs through1357 1357 (pos 23000) 3000000 at_pay pay-runs listing-1357 (rw listing-1357)

abbrev at_end : Course
at_end = further last_day at1357

end-runs : Runs at_end
unfolding has place_of all zipped sum_z rising folded unfolded ceilings kinds all_within positions.total new_holdings totals_of is_over funds.new_funds funds.paid_up funds.settled funds.paid_in new call_of after after_all first_of refusal refusals
end-runs = further-runs last_day at1357 runs-1357 refl

abbrev pub at1358 : Course
at1358 = opened from1358 1358 (pos 23000) 3000000 at_end

pub runs-1358 : Runs at1358
unfolding all rising is_weekend is_exception is_working first_working folded unfolded ceilings kinds all_within call_of after after_all first_of refusal
runs-1358 = opened-runs from1358 1358 (pos 23000) 3000000 at_end end-runs listing-1358 (rw listing-1358)

abbrev pub at_default : Course
at_default = further (settles ∷ []) at1358

pub default-runs : Runs at_default
unfolding all rising kinds all_within call_of after_all first_of refusal refusals
default-runs = further-runs (settles ∷ []) at1358 runs-1358 refl

abbrev at_paid : Course
at_paid = further pay_and_close at_default

paid-runs : Runs at_paid
unfolding has place_of all zipped sum_z those larger hundredth_up folded unfolded is_weekend is_exception is_working first_working last_working is_code month_of month_length first_day third_wednesday settlement_day last_trading_day mean_of total tally_from rule_at settled_from positions.total variation_at variation all_carried new_holdings at_close over_limit requirement funds.new_funds funds.billed funds.paid_up funds.in_default funds.settled funds.paid_in closed rising ceilings kinds all_within new call_of after after_all first_of refusal refusals
paid-runs = further-runs pay_and_close at_default default-runs refl

abbrev at1359 : Course
at1359 = opened from1358 1359 (pos 23000) 3000000 at_paid

runs-1359 : Runs at1359
unfolding all rising is_weekend is_exception is_working first_working folded unfolded ceilings kinds all_within call_of after after_all first_of refusal
runs-1359 = opened-runs from1358 1359 (pos 23000) 3000000 at_paid paid-runs listing-1359 (rw listing-1359)

abbrev at_cure : Course
at_cure = further (settles ∷ []) at1359

cure-runs : Runs at_cure
unfolding all rising kinds all_within call_of after_all first_of refusal refusals
cure-runs = further-runs (settles ∷ []) at1359 runs-1359 refl

pub alive : Alive
unfolding has place_of zipped sum_z those larger hundredth_up folded unfolded is_weekend is_exception is_working first_working last_working is_code month_of month_length first_day third_wednesday settlement_day last_trading_day mean_of total tally_from rule_at settled_from positions.total variation_at variation all_carried new_holdings at_close over_limit requirement with_core funds.new_funds funds.billed funds.paid_up funds.in_default funds.settled funds.paid_in closed new call_of after after_all steps_of history.trades booked moved_to has_ended
alive = record {
  trades-one = rw end-runs.logs;
  books = rw end-runs.logs (refl, refl);
  moves = rw (default-runs.logs, cure-runs.logs) (refl, refl);
  defaults = rw (runs-1358.books, default-runs.books, cure-runs.books) (refl, refl, refl);
  house = rw (default-runs.books, cure-runs.books) (refl, refl);
  ends = rw (runs-1357.books, end-runs.logs, runs-1358.books) (refl, refl, refl);
  lists = rw (end-runs.books, runs-1358.books) (refl, refl);
}
