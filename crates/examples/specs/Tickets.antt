-- What may go wrong where a ticket is split, each on a book that calls made (request L8; Tickets of `model` has what holds of every book): the
-- second part is over a limit that the whole keeps, it finds the trade table full, and the day is settled by another rule.
use Rattle.std.specs.Prelude.{◌≡◌, List, [], ◌∷◌, ◌++◌, ℕ, zero, suc, pos, neg_ℤ}
use Rattle.records.specs.Records.{Entry}
use Rattle.rates.specs.declared.Rule.TheVariants.{LastHour, Previous}
use Rattle.model.specs.Refusals.{refusal}
use Rattle.model.specs.History.{run}
use Rattle.model.specs.Entries.{enrols, sets_limits, trades, settles, closes}
use Rattle.model.specs.Examples.{start, open_on}

-- ---- the calls, the latest first
-- the first account may hold what 750 lots ask for, by its tolerance; the second what 1,000 lots ask for
abbrev pub enrol_two : List Entry
enrol_two = enrols 2 1000 0 ∷ enrols 1 0 2250000000 ∷ []

-- the first buys from the second, and sells to it
abbrev pub buys : ℕ → ℕ → Entry
buys time lots = trades time 2312 1 2 lots (pos 23100)

abbrev pub sells : ℕ → ℕ → Entry
sells time lots = trades time 2312 2 1 lots (pos 23100)

abbrev pub open_day : List Entry
open_day = open_on 1339 ∷ (enrol_two ++ start)

-- ---- 14: "a ticket from short to equal long keeps the total, but its second part raises it"
-- the first account is 350 lots short when its tolerance is taken away
abbrev pub go_short : List Entry
go_short = closes (pos 0) ∷ sets_limits 1 0 0 ∷ sells 34200 350 ∷ settles ∷ []

abbrev pub short : List Entry
short = open_on 1342 ∷ (go_short ++ open_day)

-- 700 lots bring it from 350 short to 350 long; 300 of them leave it 50 short
pub record MeetsLimit : Type 0 where
  pub whole : refusal (run short) (buys 34200 700) ≡ 0
  pub first : refusal (run short) (buys 34200 300) ≡ 0
  pub second : refusal (run (buys 34200 300 ∷ short)) (buys 34200 400) ≡ 14

-- ---- 16: "a part can also find the trade table full"
-- two calls again and again, so many times
unfoldable pub again : ℕ → Entry → Entry → List Entry → List Entry
again zero e f h = h
again (suc k) e f h = f ∷ e ∷ again k e f h

-- a lot is bought, then sold and bought 4,999 times
abbrev pub busy : List Entry
busy = again 4999 (sells 34200 1) (buys 34200 1) (buys 34200 1 ∷ open_day)

pub record FindsFull : Type 0 where
  pub counted : (run busy).today.trades ≡ 9999
  pub whole : refusal (run busy) (buys 34200 700) ≡ 0
  pub first : refusal (run busy) (buys 34200 300) ≡ 0
  pub second : refusal (run (buys 34200 300 ∷ busy)) (buys 34200 400) ≡ 16

-- ---- "The settlement rule may change, since it counts trades"
-- three small trades in the last hour; the ticket is the fourth, or its parts are the fourth and the fifth
abbrev pub last_hour : List Entry
last_hour = trades 55800 2312 1 2 1 (pos 23010) ∷ trades 55800 2312 1 2 1 (pos 23010) ∷ trades 55800 2312 1 2 1 (pos 23010) ∷ settles ∷ []

abbrev pub as_whole : List Entry
as_whole = closes (pos 0) ∷ buys 55800 700 ∷ (last_hour ++ open_day)

abbrev pub as_parts : List Entry
as_parts = closes (pos 0) ∷ buys 55800 400 ∷ buys 55800 300 ∷ (last_hour ++ open_day)

pub record ChangesRule : Type 0 where
  -- the previous settlement rate; and the mean of the five
  pub whole : (run as_whole).results.settled 2312 ≡ record { rate = pos 23000; rule = Previous; used = 0 }
  pub parts : (run as_parts).results.settled 2312 ≡ record { rate = pos 23100; rule = LastHour; used = 5 }
  -- the same net, and another variation
  pub nets : (((run as_whole).accounts.position 1 2312).net ≡ pos 703) × (((run as_parts).accounts.position 1 2312).net ≡ pos 703)
  pub variations : (((run as_whole).accounts.held 1).variation ≡ neg_ℤ (pos 17507500)) × (((run as_parts).accounts.held 1).variation ≡ pos 67500)
