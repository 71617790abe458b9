-- The sizes of an account's money as a function of the day, so that every sum fits 64 bits over the calendar's life. `days` is
-- the number of days that may have been closed: at most the days of the calendar, 3,653.
use Rattle.std.specs.Prelude.{◌≡◌, ℕ, ◌+◌, ◌*◌, pos, ◌+ℤ◌, ◌-ℤ◌, ◌≤ℤ◌}
use Rattle.whole.specs.Within.{Within}
use Rattle.whole.specs.Amounts.{Amount}
use Rattle.positions.specs.Bounds.{day_most}
use Rattle.funds.specs.declared.Funds.{Funds}

-- Document 01, Units and ceilings: "day | 0 | 3,652".
abbrev pub days_most : ℕ
days_most = 3653

-- what one account's day can book, 2.56 * 10^14: its costs are those of at most 10,000 trades
abbrev pub most_booked : ℕ
most_booked = day_most 1000000000000

-- what a requirement can come to: a basis of 10^14, an over-limit of ten times 1.2 * 10^13, a special margin of 10^14
abbrev pub requirement_most : ℕ
requirement_most = 320000000000000

-- the size of free, and so of a need
abbrev pub free_most : ℕ → ℕ
free_most days = 100000000000000000 + requirement_most + days * most_booked

-- Money comes in up to 10^17 (refusal 17), and by variation.
pub record Sound (days : ℕ) (f : Funds) : Type 0 where
  pub cash : pos 0 ≤ℤ f.cash
  pub margin : pos 0 ≤ℤ f.margin
  pub due : Within (days * most_booked) f.due
  pub all : ((f.cash +ℤ f.margin) +ℤ f.due) ≤ℤ pos (100000000000000000 + days * most_booked)
  pub requirement : Amount requirement_most f.requirement
  pub free : Within (free_most days) f.free

-- From a close to the next settlement no margin moves, and free is what the close found.
pub record Billed (f : Funds) : Type 0 where
  pub free : f.free ≡ (f.margin +ℤ f.due) -ℤ f.requirement
