-- What is listed on a day: document 01, 'Calendar and contract months', "Listed on day t".
use Rattle.std.specs.Prelude.{Bool, true, false, ◌&&◌, not, cond, List, map, ℕ, leb, ltb, length, replicate, Option, Some, None}
use Rattle.lists.specs.Passing.{passing, all}
use Rattle.days.specs.Days.{is_no_day}
use Rattle.months.specs.Months.{months, january2020, is_quarterly, code_of, settlement_day}

-- "with D after t .. a D past the calendar's end counts as after every t"
abbrev pub is_after : ℕ → Option ℕ → Bool
is_after t (Some d) = ltb t d
is_after t None = true

-- a month before January 2020 has its days before day 0, and so before every t
unfoldable pub settles_after : (ℕ → Bool) → ℕ → ℕ → Bool
settles_after w t m = leb january2020 m && is_after t (settlement_day w m)

-- a quarterly month, or another, with D after t
abbrev pub is_candidate : (ℕ → Bool) → ℕ → Bool → ℕ → Bool
is_candidate w t true m = is_quarterly m && settles_after w t m
is_candidate w t false m = not (is_quarterly m) && settles_after w t m

-- "the four earliest months out of March, June, September, December .. plus the two earliest other months"
abbrev pub places : Bool → ℕ
places true = 4
places false = 2

-- how many candidates of that kind come before m
abbrev pub earlier : (ℕ → Bool) → ℕ → Bool → ℕ → ℕ
earlier w t quarterly m = length (passing (is_candidate w t quarterly) m)

-- a candidate is among the earliest of its kind where fewer than that come before it
unfoldable pub is_listed : (ℕ → Bool) → ℕ → ℕ → Bool
is_listed w t m = settles_after w t m && ltb (earlier w t (is_quarterly m) m) (places (is_quarterly m))

-- in rising order
abbrev pub listed_months : (ℕ → Bool) → ℕ → List ℕ
listed_months w t = passing (is_listed w t) months

-- its D is in the calendar
abbrev pub settles : (ℕ → Bool) → ℕ → Bool
settles w m = not (is_no_day (settlement_day w m))

-- whether each listed month has its D in the calendar, and the codes
pub record Listing : Type 0 where
  pub known : Bool
  pub codes : List ℕ

-- a listed month's D is not in the calendar: no codes
abbrev pub unknown : Listing
unknown = record { known = false; codes = replicate 6 0 }

-- the codes of the listed months, if each has its D in the calendar
unfoldable pub listing : (ℕ → Bool) → ℕ → Listing
listing w t = cond (all (settles w) (listed_months w t)) (record { known = true; codes = map code_of (listed_months w t) }) unknown

-- the codes, if they are known
abbrev pub known_codes : Listing → Option (List ℕ)
known_codes l = cond l.known (Some l.codes) None
