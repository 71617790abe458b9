-- Split tickets, computed.
use Rattle.std.specs.Prelude.{◌≡◌, refl, [], ◌∷◌, ◌+◌, ◌*◌, pos}
use Rattle.std.proofs.Common.{ap, ◌∙◌, subst, arith}
use Rattle.lists.specs.Has.{has, place_of}
use Rattle.lists.specs.Passing.{all}
use Rattle.lists.specs.Zipped.{zipped}
use Rattle.lists.specs.Those.{those}
use Rattle.whole.specs.Sums.{sum_z}
use Rattle.whole.specs.Larger.{larger, smaller}
use Rattle.whole.specs.Round.{hundredth_up, nearest_size, with_sign}
use Rattle.days.specs.Days.{rising, is_weekend, is_exception, is_working, first_working, last_working}
use Rattle.months.specs.Months.{is_code, month_of, month_length, first_day, third_wednesday, settlement_day, last_trading_day}
use Rattle.folding.specs.Fold.{folded, unfolded}
use Rattle.fields.specs.Fields.{ceilings, kinds}
use Rattle.ranges.specs.Ranges.{all_within}
use Rattle.tallies.specs.Day.{in_last_hour}
use Rattle.tallies.specs.Means.{mean_of, total, mean_with}
use Rattle.tallies.specs.Tally.{tally_from, in_day, in_hour}
use Rattle.rates.specs.Rules.{rule_at}
use Rattle.rates.specs.Settling.{settled_from}
use Rattle.totals.specs.Totals as positions
use Rattle.booking.specs.Variation.{variation_at, variation}
use Rattle.booking.specs.Carried.{all_carried}
use Rattle.holdings.specs.Holdings.{new_holdings, with_limits}
use Rattle.holdings.specs.Limits.{totals_of, is_over}
use Rattle.closing.specs.DayEnd.{at_close, over_limit, requirement, with_core}
use Rattle.funds.specs.Funds as funds
use Rattle.accounts.specs.Accounts.{closed}
use Rattle.model.specs.Book.{new}
use Rattle.model.specs.Calls.{Trade, trade, call_of}
use Rattle.model.specs.Effects.{traded, after}
use Rattle.model.specs.Refusals.{first_of, refusal}
use Rattle.model.specs.History.{run_from, run}
use Rattle.model.specs.Entries.{closes}
use Rattle.model.proofs.CourseLaws.{after_all, refusals, Course, Runs, further, further-runs, opened, opened-runs, at_start, start-runs}
use Rattle.model.specs.Tickets.{Split, whole, exchanged, InOrder, second_refusal, PartsAnswered}
use Rattle.model.proofs.SplitLaws.{what-parts-meet, as_written}
use Rattle.model.proofs.KeptLaws.{known}
use Rattle.examples.specs.ExampleLaws.{six, listing-1339, listing-1342}
use Rattle.examples.specs.Tickets.{enrol_two, buys, sells, open_day, go_short, MeetsLimit, busy, FindsFull, last_hour, ChangesRule}
use Rattle.examples.specs.BusyLaws.{Recounted, still-passes, many-times}

-- ---- part by part: each call passes
abbrev at_enrol : Course
at_enrol = further enrol_two at_start

enrol-runs : Runs at_enrol
unfolding has all rising ceilings kinds all_within new call_of after after_all first_of refusal refusals
enrol-runs = further-runs enrol_two at_start start-runs refl

abbrev at1339 : Course
at1339 = opened six 1339 (pos 23000) 3000000 at_enrol

runs-1339 : Runs at1339
unfolding all rising is_weekend is_exception is_working folded unfolded ceilings kinds all_within call_of after after_all first_of refusal
runs-1339 = opened-runs six 1339 (pos 23000) 3000000 at_enrol enrol-runs listing-1339 (rw listing-1339)

abbrev at_short : Course
at_short = further go_short at1339

go-short-runs : Runs at_short
unfolding has place_of all zipped sum_z rising folded unfolded ceilings kinds all_within positions.total new_holdings with_limits totals_of is_over funds.new_funds funds.paid_up funds.settled new call_of after after_all first_of refusal refusals
go-short-runs = further-runs go_short at1339 runs-1339 refl

abbrev at1342 : Course
at1342 = opened six 1342 (pos 23000) 3000000 at_short

runs-1342 : Runs at1342
unfolding all rising is_weekend is_exception is_working first_working folded unfolded ceilings kinds all_within call_of after after_all first_of refusal
runs-1342 = opened-runs six 1342 (pos 23000) 3000000 at_short go-short-runs listing-1342 (rw listing-1342)

abbrev at_first : Course
at_first = further (buys 34200 300 ∷ []) at1342

first_runs : Runs at_first
unfolding has place_of all zipped sum_z those larger smaller hundredth_up folded unfolded is_weekend is_exception is_working first_working last_working is_code month_of month_length first_day third_wednesday settlement_day last_trading_day in_last_hour mean_of total tally_from in_day rule_at settled_from positions.total variation_at variation all_carried new_holdings with_limits totals_of is_over at_close over_limit requirement with_core funds.new_funds funds.billed funds.paid_up funds.in_default funds.settled closed rising ceilings kinds all_within new call_of after after_all first_of refusal refusals
first_runs = further-runs (buys 34200 300 ∷ []) at1342 runs-1342 refl

pub meets-limit : MeetsLimit
unfolding has place_of all zipped sum_z those larger smaller hundredth_up folded unfolded is_weekend is_exception is_working first_working last_working is_code month_of month_length first_day third_wednesday settlement_day last_trading_day in_last_hour mean_of total tally_from in_day rule_at settled_from positions.total variation_at variation all_carried new_holdings with_limits totals_of is_over at_close over_limit requirement with_core funds.new_funds funds.billed funds.paid_up funds.in_default funds.settled closed rising ceilings kinds all_within new call_of after after_all first_of refusal
meets-limit = record {
  whole = rw runs-1342.books;
  first = rw runs-1342.books;
  second = rw first_runs.books;
}

-- ---- the trade table
abbrev at_bought : Course
at_bought = further (buys 34200 1 ∷ []) at1339

bought-runs : Runs at_bought
unfolding has place_of all zipped sum_z rising folded unfolded ceilings kinds all_within positions.total new_holdings totals_of is_over funds.new_funds new call_of after after_all first_of refusal refusals
bought-runs = further-runs (buys 34200 1 ∷ []) at1339 runs-1339 refl

abbrev sale : Trade
sale = record { time = 34200; code = 2312; buyer = 2; seller = 1; lots = 1; rate = pos 23100 }

sale-says : (call_of (sells 34200 1) ≡ trade sale) × (call_of (buys 34200 1) ≡ trade (exchanged sale))
unfolding folded unfolded call_of
sale-says = (refl, refl)

sale-passes : (refusal at_bought.book (sells 34200 1) ≡ 0) × (refusal (traded at_bought.book sale) (buys 34200 1) ≡ 0)
unfolding has place_of all zipped sum_z rising folded unfolded ceilings kinds all_within positions.total new_holdings totals_of is_over funds.new_funds new call_of after after_all first_of refusal
sale-passes = (refl, refl)

bought-now : (at_bought.book.today.clock ≡ 34200) × (at_bought.book.today.trades ≡ 1)
unfolding call_of after after_all
bought-now = (refl, refl)

busy-is : Recounted at_bought.book 9999 (run busy)
busy-is =
    subst (λ n. Recounted at_bought.book (n + 2 * 4999) (run busy)) bought-now.1
    (many-times at_bought.book sale (sells 34200 1) (buys 34200 1) sale-says.0 sale-says.1 refl bought-now.0 sale-passes.0 sale-passes.1
    (buys 34200 1 ∷ open_day) bought-runs.books 4999 (omega (arith, bought-now.1)))

-- the ticket of 700 lots, and its two parts
abbrev ticket : Split
ticket = record {
  code = 2312;
  buyer = 1;
  seller = 2;
  rate = pos 23100;
  time = 34200;
  first_time = 34200;
  first_lots = 300;
  second_time = 34200;
  second_lots = 400;
}

ticket-says : call_of (buys 34200 700) ≡ trade (whole ticket)
unfolding folded unfolded call_of
ticket-says = refl

ticket-passes : refusal at_bought.book (buys 34200 700) ≡ 0
unfolding has place_of all zipped sum_z rising folded unfolded ceilings kinds all_within positions.total new_holdings totals_of is_over funds.new_funds new call_of after after_all first_of refusal
ticket-passes = refl

pub finds-full : FindsFull
unfolding run_from
finds-full = record { counted = count; whole = passes; first = answers.first_passes; second = answers.second-answered ∙ full }
  where
    count : (run busy).today.trades ≡ 9999
    count = ap (λ c. c.today.trades) busy-is.is

    passes : refusal (run busy) (buys 34200 700) ≡ 0
    passes =
        ap (λ c. refusal c (buys 34200 700)) busy-is.is
        ∙ still-passes at_bought.book 9999 busy-is.tally (buys 34200 700) (whole ticket) ticket-says ticket-passes (omega arith)

    in_order : InOrder ticket (run busy)
    in_order = record { hours = (refl, refl); clock = rw (ap (λ c. c.today.clock) busy-is.is ∙ bought-now.0); order = refl }

    answers : PartsAnswered ticket (run busy) (buys 34200 300) (buys 34200 400)
    answers = what-parts-meet ticket (run busy) _ _ _ (as_written ticket (run busy) (known busy) passes in_order (omega arith) (omega arith))

    full : second_refusal ticket (run busy) ≡ 16
    full = rw count

-- ---- the rule
abbrev at_last_hour : Course
at_last_hour = further last_hour at1339

last-hour-runs : Runs at_last_hour
unfolding has place_of all zipped sum_z rising folded unfolded ceilings kinds all_within positions.total new_holdings totals_of is_over funds.new_funds funds.paid_up funds.settled new call_of after after_all first_of refusal refusals
last-hour-runs = further-runs last_hour at1339 runs-1339 refl

abbrev at_whole : Course
at_whole = further (closes (pos 0) ∷ buys 55800 700 ∷ []) at_last_hour

whole-runs : Runs at_whole
unfolding has place_of all zipped sum_z rising folded unfolded ceilings kinds all_within positions.total new_holdings totals_of is_over funds.new_funds funds.paid_up funds.settled new call_of after after_all first_of refusal refusals
whole-runs = further-runs (closes (pos 0) ∷ buys 55800 700 ∷ []) at_last_hour last-hour-runs refl

abbrev at_parts : Course
at_parts = further (closes (pos 0) ∷ buys 55800 400 ∷ buys 55800 300 ∷ []) at_last_hour

parts-runs : Runs at_parts
unfolding has place_of all zipped sum_z rising folded unfolded ceilings kinds all_within positions.total new_holdings totals_of is_over funds.new_funds funds.paid_up funds.settled new call_of after after_all first_of refusal refusals
parts-runs = further-runs (closes (pos 0) ∷ buys 55800 400 ∷ buys 55800 300 ∷ []) at_last_hour last-hour-runs refl

pub changes-rule : ChangesRule
unfolding has place_of all zipped sum_z those larger smaller hundredth_up nearest_size with_sign folded unfolded is_weekend is_exception is_working first_working last_working is_code month_of month_length first_day third_wednesday settlement_day last_trading_day in_last_hour mean_of total mean_with tally_from in_day in_hour rule_at settled_from positions.total variation_at variation all_carried new_holdings totals_of is_over at_close over_limit requirement with_core funds.new_funds funds.billed funds.paid_up funds.in_default funds.settled closed rising ceilings kinds all_within new call_of after after_all first_of refusal
changes-rule = record {
  whole = rw whole-runs.books;
  parts = rw parts-runs.books;
  nets = rw (whole-runs.books, parts-runs.books) (refl, refl);
  variations = rw (whole-runs.books, parts-runs.books) (refl, refl);
}
