-- Document 01, marked examples 6, 7 and 8, as computations.
use Rattle.std.specs.Prelude.{◌≡◌, refl, false, List, [], ◌∷◌, ℕ, ℤ, pos, negsuc}
use Rattle.lists.specs.Those.{those}
use Rattle.whole.specs.Round.{nearest_size, with_sign}
use Rattle.whole.specs.Sums.{sum_z}
use Rattle.tallies.specs.Means.{mean_of, total}
use Rattle.tallies.specs.Day.{Trade, Quote, in_last_hour, window_start}
use Rattle.rates.specs.Rules.{halfway, rule_at, settled}
use Rattle.rates.specs.declared.Rule.{Rule}
use Rattle.rates.specs.declared.Rule.TheVariants.{LastHour, Quotes}
use Rattle.rates.specs.declared.Settled.{Settled}

abbrev trade : ℕ → ℕ → ℤ → Trade
trade time lots rate = record { time = time; lots = lots; rate = rate }

abbrev bid : ℕ → ℤ → Quote
bid time rate = record { time = time; side = 0; rate = rate }

abbrev offer : ℕ → ℤ → Quote
offer time rate = record { time = time; side = 1; rate = rate }

abbrev by : Rule → ℤ → ℕ → Settled
by rule rate used = record { rate = rate; rule = rule; used = used }

-- ---- the marked examples
-- "Lots 2 at 1, 1 at 1, three of 1 at 0", in the last hour
abbrev half : ℤ → List Trade
half one =
    trade window_start 2 one
    ∷ trade window_start 1 one
    ∷ trade window_start 1 (pos 0)
    ∷ trade window_start 1 (pos 0)
    ∷ trade window_start 1 (pos 0)
    ∷ []

-- "mean 0.5, rate 1"
pub example-6 : settled (half (pos 1)) [] (pos 0) false (pos 0) ≡ by LastHour (pos 1) 5
unfolding settled rule_at those in_last_hour mean_of total sum_z nearest_size with_sign
example-6 = refl

-- "The same with -1: rate -1." Request L1: "Marked example 7 becomes 0."
pub example-7 : settled (half (negsuc 0)) [] (pos 0) false (pos 0) ≡ by LastHour (pos 0) 5
unfolding settled rule_at those in_last_hour mean_of total sum_z nearest_size with_sign
example-7 = refl

-- "Bids 10, 11, offer 12: 11.25, rate 11."
pub example-8 :
    settled [] (bid window_start (pos 10) ∷ bid window_start (pos 11) ∷ offer window_start (pos 12) ∷ []) (pos 0) false (pos 0)
    ≡ by Quotes (pos 11) 3
unfolding settled rule_at those in_last_hour mean_of halfway total sum_z nearest_size with_sign
example-8 = refl
