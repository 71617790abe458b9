-- Contract months: what document 01, 'Calendar and contract months', says of one month. A month is counted from January 2000 on, since a code has two digits for the year.
use Rattle.std.specs.Prelude.{Bool, ◌&&◌, ◌||◌, cond, ℕ, zero, suc, ◌+◌, ◌-◌, ◌*◌, ◌/◌, ◌%◌, eqb, leb, ltb, Option, Some, None}
use Rattle.days.specs.Days.{next_working, working_before}
use Rattle.months.specs.declared.Month.{Month}

-- "Code YYMM is the month": a year of two digits and a month from 01 to 12
unfoldable pub is_code : ℕ → Bool
is_code code = ltb code 10000 && (leb 1 (code % 100) && leb (code % 100) 12)

unfoldable pub month_of : ℕ → Option Month
month_of code = cond (is_code code) (Some (record { number = code / 100 * 12 + (code % 100 - 1) })) None

unfoldable pub code_of : ℕ → ℕ
code_of m = m / 12 * 100 + (m % 12 + 1)

-- the number of months that codes can name
abbrev pub months : ℕ
months = 1200

-- "March, June, September, December"
abbrev pub is_quarterly : ℕ → Bool
is_quarterly m = eqb (m % 3) 2

-- ---- the days of a month

-- January 2020, the month that begins on day 0
abbrev pub january2020 : ℕ
january2020 = 240

-- every fourth year of 2000 to 2099 is a leap year
abbrev pub february : ℕ → ℕ
february year = cond (eqb (year % 4) 0) 29 28

-- April, June, September and November
abbrev pub is_short : ℕ → Bool
is_short m = eqb m 3 || (eqb m 5 || (eqb m 8 || eqb m 10))

unfoldable pub month_length : ℕ → ℕ
month_length m = cond (eqb (m % 12) 1) (february (m / 12)) (cond (is_short (m % 12)) 30 31)

-- the first day of the i-th month after January 2020
unfoldable pub first_day : ℕ → ℕ
first_day zero = 0
first_day (suc i) = first_day i + month_length (january2020 + i)

-- "the third Wednesday": Wednesdays are the multiples of 7, and two weeks after a month's first one is its third
unfoldable pub third_wednesday : ℕ → ℕ
third_wednesday m = (first_day (m - january2020) + 6) / 7 * 7 + 14

-- "D is the third Wednesday, or the next working day if that is off .. none where .. the day [is] not in the calendar": the days of a month before January 2020 are before day 0
unfoldable pub settlement_day : (ℕ → Bool) → ℕ → Option ℕ
settlement_day w m = cond (ltb m january2020) None (next_working w (third_wednesday m))

-- "last trading is the working day before D"
abbrev pub before_that : (ℕ → Bool) → Option ℕ → Option ℕ
before_that w (Some d) = working_before w d
before_that w None = None

unfoldable pub last_trading_day : (ℕ → Bool) → ℕ → Option ℕ
last_trading_day w m = before_that w (settlement_day w m)

-- by code: "none where the code is no month"
abbrev pub of_month : (ℕ → Option ℕ) → Option Month → Option ℕ
of_month day (Some m) = day m.number
of_month day None = None

abbrev pub settlement_of : (ℕ → Bool) → ℕ → Option ℕ
settlement_of w code = of_month (settlement_day w) (month_of code)

abbrev pub last_trading_of : (ℕ → Bool) → ℕ → Option ℕ
last_trading_of w code = of_month (last_trading_day w) (month_of code)
