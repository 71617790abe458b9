-- Working days: what document 01, 'Calendar and contract months', says of days.
use Rattle.std.specs.Prelude.{Bool, true, false, ◌&&◌, ◌||◌, not, cond, List, [], ◌∷◌, length, get_or, ℕ, zero, suc, ◌+◌, ◌-◌, ◌%◌, ◌≤◌, ◌<◌, min, eqb, ltb, Option, Some, None}

-- "Day 0 is Wednesday 2020-01-01; day 3,652 is 2029-12-31."
abbrev pub days : ℕ
days = 3653

-- ---- one day

-- "Saturdays and Sundays are off": three and four days after a Wednesday
unfoldable pub is_weekend : ℕ → Bool
is_weekend d = eqb (d % 7) 3 || eqb (d % 7) 4

-- "A start record lists up to 400 exception days": d is one of them
unfoldable pub is_exception : List ℕ → ℕ → Bool
is_exception [] d = false
is_exception (e ∷ rest) d = eqb e d || is_exception rest d

-- the exceptions from the n-th on, counted from 0, are all later than the day
abbrev pub LaterFrom : List ℕ → ℕ → ℕ → Type 0
LaterFrom e d n = (k : ℕ) → n ≤ k → k < length e → d < get_or e k 0

-- "strictly rising": each is later than the one before it
unfoldable pub rising_after : ℕ → List ℕ → Bool
rising_after e [] = true
rising_after e (f ∷ rest) = ltb e f && rising_after f rest

unfoldable pub rising : List ℕ → Bool
rising [] = true
rising (e ∷ rest) = rising_after e rest

-- "other days working .. each flips its day": on an exception a day off works, and a working day is off
unfoldable pub is_working : List ℕ → ℕ → Bool
is_working exceptions d = cond (is_exception exceptions d) (is_weekend d) (not (is_weekend d))

-- ---- looking for a working day. `w` says which days are working

-- the first working day of the n days from d on
unfoldable pub first_working : (ℕ → Bool) → ℕ → ℕ → Option ℕ
first_working w d zero = None
first_working w d (suc n) = cond (w d) (Some d) (first_working w (d + 1) n)

-- the next working day: the first from d on, if the calendar still has one
abbrev pub next_working : (ℕ → Bool) → ℕ → Option ℕ
next_working w d = first_working w d (days - d)

-- the last working day below d
unfoldable pub last_working : (ℕ → Bool) → ℕ → Option ℕ
last_working w zero = None
last_working w (suc d) = cond (w d) (Some d) (last_working w d)

-- the working day before d: the last of the calendar's days before it, if there is one
abbrev pub working_before : (ℕ → Bool) → ℕ → Option ℕ
working_before w d = last_working w (min d days)

-- ---- the whole calendar

-- whether an answer is that day
abbrev pub is_on : ℕ → Option ℕ → Bool
is_on d (Some e) = eqb d e
is_on d None = false

abbrev pub is_no_day : Option ℕ → Bool
is_no_day (Some d) = false
is_no_day None = true

-- "more than 14 days off running": of the 15 days from d on, none is working
abbrev pub is_long_break : (ℕ → Bool) → ℕ → Bool
is_long_break w d = is_no_day (first_working w d 15)

-- no long break begins on one of the first n days
unfoldable pub no_long_break : (ℕ → Bool) → ℕ → Bool
no_long_break w zero = true
no_long_break w (suc d) = not (is_long_break w d) && no_long_break w d

-- "A calendar with more than 14 days off running is refused": the last day on which 15 of the calendar's days can begin is day 3,638
abbrev pub accepted : (ℕ → Bool) → Bool
accepted w = no_long_break w (days - 14)
