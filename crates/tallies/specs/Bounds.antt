-- The sizes that document 01's ceilings give the numbers of a tally, so that every sum fits 64 bits.
-- Document 01, Units and ceilings: rates from -100,000 to 100,000; "lots in a trade | 1 | 1,000"; "trades in a day;
-- last-hour quotes, contract and side, in a day | 0 | 10,000".
use Rattle.std.specs.Prelude.{◌≡◌, true, List, ℕ, ◌*◌, ◌≤◌, ◌<◌, length, get_or}
use Rattle.lists.specs.All.{All}
use Rattle.whole.specs.Within.{Within}
use Rattle.tallies.specs.Day.{Trade, Quote, in_last_hour, counted}
use Rattle.tallies.specs.Tally.{none, side_in}
use Rattle.tallies.specs.declared.Weighted.{Weighted}
use Rattle.tallies.specs.declared.Mean.{Mean}
use Rattle.tallies.specs.declared.Tally.{Tally}

-- ---- a day within the ceilings
pub record GoodTrade (t : Trade) : Type 0 where
  pub least : 0 < t.lots
  pub most : t.lots ≤ 1000
  pub rate : Within 100000 t.rate

pub record GoodQuote (q : Quote) : Type 0 where
  pub rate : Within 100000 q.rate

pub record GoodDay (trades : List Trade) (quotes : List Quote) : Type 0 where
  pub each-trade : All GoodTrade trades
  pub each-quote : All GoodQuote quotes
  pub few-trades : length trades ≤ 10000
  pub few-quotes : (side : ℕ) → length (counted side quotes) ≤ 10000

-- ---- a tally within them
-- a rate with its weight
pub record Small (w : Weighted) : Type 0 where
  pub weight : w.weight ≤ 1000
  pub rate : Within 100000 w.rate

pub record EachSmall (ws : List Weighted) : Type 0 where
  pub at : (i : ℕ) → Small (get_or ws i none)

-- a mean of such rates, the weights at most W in all
pub record Fair (W : ℕ) (m : Mean) : Type 0 where
  pub weight : m.weight ≤ W
  pub sum : Within (100000 * m.weight) m.sum

pub record Sound (t : Tally) : Type 0 where
  pub trades : t.trades ≤ 10000
  pub five : length t.latest ≡ 5
  pub latest : EachSmall t.latest
  pub newest : 0 < t.trades → 0 < (get_or t.latest 4 none).weight
  pub late : t.late ≤ t.trades
  pub least : t.late ≤ t.hour.weight
  pub hour : Fair (1000 * t.late) t.hour
  pub sides : length t.quotes ≡ 2
  pub quotes : (side : ℕ) → Fair 10000 (side_in t side)

-- ---- what keeps it so
-- Refusal 16: "trade or last-hour quote table full".
pub record TradeFits (t : Tally) (w : Weighted) : Type 0 where
  pub room : t.trades < 10000
  pub least : 0 < w.weight
  pub small : Small w

-- A quote outside the last hour needs no room.
pub record QuoteFits (t : Tally) (time side : ℕ) (w : Weighted) : Type 0 where
  pub room : in_last_hour time ≡ true → (side_in t side).weight < 10000
  pub one : w.weight ≡ 1
  pub rate : Within 100000 w.rate
