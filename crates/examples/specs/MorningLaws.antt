-- The two mornings, computed.
use Rattle.std.specs.Prelude.{refl, [], ◌∷◌, pos}
use Rattle.lists.specs.Has.{has, place_of}
use Rattle.lists.specs.Passing.{all}
use Rattle.lists.specs.Zipped.{zipped}
use Rattle.lists.specs.Those.{those}
use Rattle.whole.specs.Sums.{sum_z}
use Rattle.whole.specs.Larger.{larger, smaller}
use Rattle.whole.specs.Round.{hundredth_up}
use Rattle.days.specs.Days.{rising, is_weekend, is_exception, is_working, first_working, last_working}
use Rattle.months.specs.Months.{is_code, month_of, month_length, first_day, third_wednesday, settlement_day, last_trading_day}
use Rattle.folding.specs.Fold.{folded, unfolded}
use Rattle.fields.specs.Fields.{ceilings, kinds}
use Rattle.ranges.specs.Ranges.{all_within}
use Rattle.tallies.specs.Means.{mean_of, total}
use Rattle.tallies.specs.Tally.{tally_from}
use Rattle.rates.specs.Rules.{rule_at}
use Rattle.rates.specs.Settling.{settled_from}
use Rattle.totals.specs.Totals as positions
use Rattle.booking.specs.Variation.{variation_at, variation}
use Rattle.booking.specs.Carried.{all_carried}
use Rattle.holdings.specs.Holdings.{new_holdings}
use Rattle.holdings.specs.Limits.{totals_of, is_over}
use Rattle.closing.specs.DayEnd.{at_close, over_limit, requirement, with_core}
use Rattle.funds.specs.Funds as funds
use Rattle.accounts.specs.Accounts.{closed}
use Rattle.model.specs.Book.{new}
use Rattle.model.specs.Calls.{call_of}
use Rattle.model.specs.Effects.{after}
use Rattle.model.specs.Refusals.{first_of, refusal}
use Rattle.model.specs.History.{run_from, run}
use Rattle.model.specs.Entries.{pays_in, settles}
use Rattle.model.proofs.NeighbourLaws.{payment-apart}
use Rattle.model.proofs.CourseLaws.{after_all, refusals, Course, Runs, further, further-runs}
use Rattle.examples.specs.Alive.{rolled}
use Rattle.examples.specs.AliveLaws.{at1358, runs-1358, default-runs}
use Rattle.examples.specs.Mornings.{TwoMornings}

abbrev at_paid_up : Course
at_paid_up = further (settles ∷ pays_in 2 20000000 ∷ []) at1358

paid-up-runs : Runs at_paid_up
unfolding has all funds.new_funds funds.billed funds.paid_up funds.settled funds.paid_in closed rising ceilings kinds all_within new call_of after after_all first_of refusal refusals
paid-up-runs = further-runs (settles ∷ pays_in 2 20000000 ∷ []) at1358 runs-1358 refl

pub two-mornings : TwoMornings
unfolding run_from has place_of all zipped sum_z those larger smaller hundredth_up folded unfolded is_weekend is_exception is_working first_working last_working is_code month_of month_length first_day third_wednesday settlement_day last_trading_day mean_of total tally_from rule_at settled_from positions.total variation_at variation all_carried new_holdings totals_of is_over at_close over_limit requirement with_core funds.new_funds funds.billed funds.paid_up funds.in_default funds.settled funds.paid_in closed rising ceilings kinds all_within new call_of after after_all first_of refusal
two-mornings = record {
  alike = payment-apart.paid-in 2 (pos 20000000) (run rolled) (pays_in 2 20000000) refl;
  defaults = rw (default-runs.books, paid-up-runs.books) (refl, refl);
  first = rw (default-runs.books, paid-up-runs.books) (refl, refl);
  houses = rw (default-runs.books, paid-up-runs.books) (refl, refl);
  later = rw (default-runs.books, paid-up-runs.books) (refl, refl);
}
