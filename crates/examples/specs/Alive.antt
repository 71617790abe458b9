-- The promises are not empty: a list of calls with a trade, a close that books, settlements that move money, a default and its cure, and a
-- roll in which one code ends and another is listed.
use Rattle.std.specs.Prelude.{◌≡◌, true, false, List, [], ◌∷◌, ◌++◌, pos, neg_ℤ}
use Rattle.records.specs.Records.{Entry}
use Rattle.model.specs.Book.{is_listed}
use Rattle.model.specs.Calls.{Trade}
use Rattle.model.specs.History as history
use Rattle.model.specs.History.{run, log, booked, moved_to, has_ended}
use Rattle.model.specs.Entries.{enrols, pays_in, trades, settles, closes}
use Rattle.model.specs.Examples.{start, open_on}

-- ---- the calls, the latest first
-- the second account has too little for the requirement of its limit
abbrev pub enrol_and_pay : List Entry
enrol_and_pay = pays_in 2 20000000 ∷ pays_in 1 100000000 ∷ enrols 2 10 0 ∷ enrols 1 10 0 ∷ []

-- on day 1357, the last trading day of 2309, at a final rate 100 above the traded one
abbrev pub last_day : List Entry
last_day = closes (pos 23200) ∷ trades 34200 2309 1 2 4 (pos 23100) ∷ settles ∷ []

abbrev pub pay_and_close : List Entry
pay_and_close = closes (pos 0) ∷ pays_in 2 20000000 ∷ []

abbrev pub listed : List Entry
listed = open_on 1357 ∷ (enrol_and_pay ++ start)

abbrev pub ended : List Entry
ended = last_day ++ listed

abbrev pub rolled : List Entry
rolled = open_on 1358 ∷ ended

abbrev pub in_default : List Entry
in_default = settles ∷ rolled

abbrev pub life : List Entry
life = settles ∷ open_on 1359 ∷ (pay_and_close ++ in_default)

-- ---- what comes of them
abbrev the_trade : Trade
the_trade = record { time = 34200; code = 2309; buyer = 1; seller = 2; lots = 4; rate = pos 23100 }

pub record Alive : Type 0 where
  -- an accepted trade
  pub trades-one : history.trades (log ended) ≡ record { day = 1357; deal = the_trade } ∷ []
  -- a close that books
  pub books : (booked 1 2309 (log ended) ≡ pos 100000) × (booked 2 2309 (log ended) ≡ neg_ℤ (pos 100000))
  -- settlements that move money
  pub moves : (moved_to 1 (log in_default) ≡ pos 100000) × (moved_to 2 (log life) ≡ neg_ℤ (pos 100000))
  -- an account comes into default, and out of it
  pub defaults :
      (((run rolled).accounts.funds 2).flag ≡ false)
      × (((run in_default).accounts.funds 2).flag ≡ true)
      × (((run life).accounts.funds 2).flag ≡ false)
  -- until then the house has paid the one side and not received from the other
  pub house : ((run in_default).house ≡ neg_ℤ (pos 100000)) × ((run life).house ≡ pos 0)
  -- a code ends
  pub ends :
      (is_listed (run listed) 2309 ≡ true) × (has_ended 2309 (log ended) ≡ true) × (is_listed (run rolled) 2309 ≡ false)
  -- another is listed
  pub lists : (is_listed (run ended) 2409 ≡ false) × (is_listed (run rolled) 2409 ≡ true)
