-- A contract's day as settlement sees it: its accepted trades and its quotes, each list in the order of acceptance,
-- and which of them the rules use.
use Rattle.std.specs.Prelude.{Bool, ◌&&◌, List, ℕ, ◌+◌, ◌*◌, ◌-◌, leb, ltb, eqb, ℤ, length, drop}
use Rattle.lists.specs.Those.{those}

pub record Trade : Type 0 where
  pub time : ℕ
  pub lots : ℕ
  pub rate : ℤ

-- Document 01, Units and ceilings: "quote side | 0 (bid) | 1 (offer)".
pub record Quote : Type 0 where
  pub time : ℕ
  pub side : ℕ
  pub rate : ℤ

-- ---- the last hour
-- Document 01, Settlement rate: "last hour is 15:30:00 up to, not including, 16:30:00". Times are seconds of the day.

abbrev pub clock : ℕ → ℕ → ℕ
clock hour minute = 3600 * hour + 60 * minute

abbrev pub window_start : ℕ
window_start = clock 15 30

abbrev pub window_end : ℕ
window_end = clock 16 30

unfoldable pub in_last_hour : ℕ → Bool
in_last_hour time = leb window_start time && ltb time window_end

-- ---- what the rules use
-- Document 01, rule 1: "trades in the last hour".
abbrev pub late_trades : List Trade → List Trade
late_trades trades = those (λ t. in_last_hour t.time) trades

-- Document 01, rule 2: "the last five accepted".
abbrev pub last_five : {X : Type 0} → List X → List X
last_five xs = drop (length xs - 5) xs

-- Document 01, rule 3: "both sides quoted in the last hour". "Quotes outside the last hour move the clock and count
-- nowhere" (Refusal numbers).
abbrev pub counted : ℕ → List Quote → List Quote
counted side quotes = those (λ q. in_last_hour q.time && eqb q.side side) quotes

abbrev pub bids_of : List Quote → List Quote
bids_of quotes = counted 0 quotes

abbrev pub offers_of : List Quote → List Quote
offers_of quotes = counted 1 quotes
