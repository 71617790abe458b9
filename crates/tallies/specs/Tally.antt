-- A tally holds of a contract's day what settlement needs. Here: the tally of two lists, and what one trade or one quote
-- more makes of a tally. TallyLaws says that these go together.
use Rattle.std.specs.Prelude.{◌&&◌, cond, List, [], ◌∷◌, ◌++◌, map, ℕ, ◌+◌, ltb, pos, length, get_or, set, drop, replicate}
use Rattle.tallies.specs.Day.{Trade, Quote, in_last_hour, late_trades, counted}
use Rattle.tallies.specs.Means.{mean_of, mean_with, weighted, by_lots, once}
use Rattle.tallies.specs.declared.Weighted.{Weighted}
use Rattle.tallies.specs.declared.Mean.{Mean}
use Rattle.tallies.specs.declared.Tally.{Tally}

-- ---- of lists
-- no trade
abbrev pub none : Weighted
none = weighted 0 (pos 0)

-- the last five, the oldest first, with `none` before them where there are fewer
unfoldable pub latest_of : List Weighted → List Weighted
latest_of ws = drop (length ws) (replicate 5 none ++ ws)

-- a mean of no rates
abbrev pub no_rates : Mean
no_rates = record { sum = pos 0; weight = 0 }

-- the mean of a side's counted quotes, and of both sides'
abbrev pub side_of : List Quote → ℕ → Mean
side_of quotes side = mean_of (map once (counted side quotes))

abbrev pub sides_of : List Quote → List Mean
sides_of quotes = side_of quotes 0 ∷ side_of quotes 1 ∷ []

unfoldable pub tally_from : List Trade → List Trade → List Mean → Tally
tally_from trades late sides = record {
  trades = length trades;
  latest = latest_of (map by_lots trades);
  late = length late;
  hour = mean_of (map by_lots late);
  quotes = sides;
}

abbrev pub tally_of : List Trade → List Quote → Tally
tally_of trades quotes = tally_from trades (late_trades trades) (sides_of quotes)

-- what a tally has of a side
abbrev pub side_in : Tally → ℕ → Mean
side_in t side = get_or t.quotes side no_rates

-- ---- one more
abbrev pub shifted : List Weighted → Weighted → List Weighted
shifted ws w = drop 1 ws ++ (w ∷ [])

unfoldable pub in_day : Tally → Weighted → Tally
in_day t w = record {
  trades = t.trades + 1;
  latest = shifted t.latest w;
  late = t.late;
  hour = t.hour;
  quotes = t.quotes;
}

unfoldable pub in_hour : Tally → Weighted → Tally
in_hour t w = record {
  trades = t.trades;
  latest = t.latest;
  late = t.late + 1;
  hour = mean_with t.hour w;
  quotes = t.quotes;
}

abbrev pub with_trade : Tally → ℕ → Weighted → Tally
with_trade t time w = cond (in_last_hour time) (in_hour (in_day t w) w) (in_day t w)

unfoldable pub in_side : Tally → ℕ → Weighted → Tally
in_side t side w = record {
  trades = t.trades;
  latest = t.latest;
  late = t.late;
  hour = t.hour;
  quotes = set t.quotes side (mean_with (side_in t side) w);
}

-- there are two sides; any other counts nowhere
abbrev pub with_quote : Tally → ℕ → ℕ → Weighted → Tally
with_quote t time side w = cond (in_last_hour time && ltb side 2) (in_side t side w) t
