-- The numbers of refusals, and of what a call answers that has nothing else to tell.
use Rattle.std.specs.Prelude.{ℕ, ⊤, Result, Ok, Err}
use Rattle.refusals.specs.declared.Refusal.{Refusal}
use Rattle.refusals.specs.declared.Refusal.TheVariants.{NotNow, UnknownAccount, AlreadyEnrolled, AccountsFull, NotListed, TooEarly, OutOfHours, BuyerIsSeller, InDefault, NetTooLarge, OverLimit, TooMuch, NoRoom, PaysInTooMuch, CalendarRefused, DayOff, NotNextDay, NoSettlementDay}

abbrev pub number_of : Refusal → ℕ
number_of NotNow = 3
number_of UnknownAccount = 5
number_of AlreadyEnrolled = 6
number_of AccountsFull = 7
number_of NotListed = 8
number_of TooEarly = 9
number_of OutOfHours = 10
number_of BuyerIsSeller = 11
number_of InDefault = 12
number_of NetTooLarge = 13
number_of OverLimit = 14
number_of TooMuch = 15
number_of NoRoom = 16
number_of PaysInTooMuch = 17
number_of CalendarRefused = 18
number_of DayOff = 19
number_of NotNextDay = 20
number_of NoSettlementDay = 21

-- 0 where the call is accepted
abbrev pub outcome_number : Result ⊤ Refusal → ℕ
outcome_number (Ok done) = 0
outcome_number (Err refusal) = number_of refusal
