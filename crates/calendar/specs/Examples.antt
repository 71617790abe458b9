-- Document 01's marked examples of the calendar, computed, without exceptions.
use Rattle.std.specs.Prelude.{◌≡◌, refl, Bool, true, [], ◌∷◌, ℕ, Some}
use Rattle.std.proofs.Common.{sym, arith}
use Rattle.days.specs.Days.{is_weekend, is_exception, is_working, first_working, last_working}
use Rattle.months.specs.Months.{is_code, month_of, code_of, month_length, first_day, third_wednesday, settlement_day, last_trading_day, settlement_of, last_trading_of}
use Rattle.calendar.specs.Listing.{listing}
use Rattle.calendar.specs.Choosing.{considered}
use Rattle.calendar.specs.ChoosingLaws.{chosen_after, computed-listing}

abbrev pub plain : ℕ → Bool
plain = is_working []

-- 3. 2309 settles on day 1358.
pub example-3 : settlement_of plain 2309 ≡ Some 1358
unfolding is_working is_exception is_weekend first_working is_code month_of month_length first_day third_wednesday settlement_day
example-3 = refl

-- 4. Its last trading day is 1357.
pub example-4 : last_trading_of plain 2309 ≡ Some 1357
unfolding is_working is_exception is_weekend first_working last_working is_code month_of month_length first_day third_wednesday settlement_day last_trading_day
example-4 = refl

-- 5. Without exceptions, day 1386 lists 2311, 2312, 2401, 2403, 2406, 2409. The last of them is the 57th month from January 2020 on.
pub example-5 : listing plain 1386 ≡ record { known = true; codes = 2311 ∷ 2312 ∷ 2401 ∷ 2403 ∷ 2406 ∷ 2409 ∷ [] }
unfolding is_working is_exception is_weekend first_working code_of month_length first_day third_wednesday settlement_day considered chosen_after
example-5 = sym (computed-listing plain 1386 57 (omega arith) refl)
