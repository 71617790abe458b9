-- Document 01, 'Settlement rate': which of the five rules gives a contract's rate, at which rate, from how many trades or
-- counted quotes.
use Rattle.std.specs.Prelude.{Bool, ◌&&◌, cond, List, [], ◌++◌, map, ℕ, ◌*◌, leb, ℤ, pos, ◌+ℤ◌, ◌*ℤ◌, length}
use Rattle.whole.specs.Round.{rounded}
use Rattle.tallies.specs.Day.{Trade, Quote, late_trades, last_five, bids_of, offers_of}
use Rattle.tallies.specs.Means.{mean_of, by_lots, once}
use Rattle.tallies.specs.declared.Weighted.{Weighted}
use Rattle.tallies.specs.declared.Mean.{Mean}
use Rattle.rates.specs.declared.Rule.{Rule}
use Rattle.rates.specs.declared.Rule.TheVariants.{LastHour, LastFive, Quotes, Previous, Final}
use Rattle.rates.specs.declared.Settled.{Settled}

-- ---- one rounding at the end
-- "half of (mean bid + mean offer)": half of A / a + B / b is (A b + B a) / 2 a b.
unfoldable pub halfway : Mean → Mean → Mean
halfway a b = record {
  sum = a.sum *ℤ pos b.weight +ℤ b.sum *ℤ pos a.weight;
  weight = 2 * (a.weight * b.weight);
}

-- "One rounding at the end, to nearest, ties away from zero (house)." Request L1: "The trading centre's ties go towards the
-- higher rate, also below zero". Round in `whole` has what that means.
abbrev pub nearest : Mean → ℤ
nearest m = rounded m.sum m.weight

-- ---- the rules
-- The rule's number in document 01.
abbrev pub number_of : Rule → ℕ
number_of LastHour = 1
number_of LastFive = 2
number_of Quotes = 3
number_of Previous = 4
number_of Final = 5

-- Which rule gives the rate, from the counts of trades in the last hour and in the day and of counted bids and offers.
--   "Rule 5, on the last trading day only and before the others: the final rate."
--   "1. five or more trades in the last hour: their lot-weighted mean;"
--   "2. else five or more in the day: the lot-weighted mean of the last five accepted;"
--   "3. else both sides quoted in the last hour: half of (mean bid + mean offer);"
--   "4. else the previous settlement rate."
unfoldable pub rule_at : ℕ → ℕ → ℕ → ℕ → Bool → Rule
rule_at late day bids offers ending =
    cond ending Final
    (cond (leb 5 late) LastHour
    (cond (leb 5 day) LastFive
    (cond (leb 1 bids && leb 1 offers) Quotes Previous)))

module _ (trades : List Trade) (quotes : List Quote) where
  abbrev pub rule_of : Bool → Rule
  rule_of ending =
      rule_at (length (late_trades trades)) (length trades) (length (bids_of quotes)) (length (offers_of quotes)) ending

  -- The trades or counted quotes that the rule uses; none for rules 4 and 5.
  abbrev pub used_by : Rule → List Weighted
  used_by LastHour = map by_lots (late_trades trades)
  used_by LastFive = map by_lots (last_five trades)
  used_by Quotes = map once (bids_of quotes) ++ map once (offers_of quotes)
  used_by Previous = []
  used_by Final = []

  -- The rate by a rule, from the previous settlement rate and the final rate.
  abbrev pub rate_by : Rule → ℤ → ℤ → ℤ
  rate_by LastHour previous final = nearest (mean_of (used_by LastHour))
  rate_by LastFive previous final = nearest (mean_of (used_by LastFive))
  rate_by Quotes previous final = nearest (halfway (mean_of (map once (bids_of quotes))) (mean_of (map once (offers_of quotes))))
  rate_by Previous previous final = previous
  rate_by Final previous final = final

  -- The answer: the rate, the rule that gave it, and how many trades or counted quotes it used.
  unfoldable pub settled : ℤ → Bool → ℤ → Settled
  settled previous ending final = record {
    rate = rate_by (rule_of ending) previous final;
    rule = rule_of ending;
    used = length (used_by (rule_of ending));
  }
