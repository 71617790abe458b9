-- The account lines of document 01's printed day and its marked examples 9 and 10, computed from the new account on.
use Rattle.std.specs.Prelude.{◌≡◌, refl, false, ℕ, ℤ, pos, neg_ℤ, replicate}
use Rattle.lists.specs.Zipped.{zipped}
use Rattle.whole.specs.Sums.{sum_z}
use Rattle.whole.specs.Larger.{larger}
use Rattle.whole.specs.Round.{hundredth_up}
use Rattle.positions.specs.Deals.{with_deal}
use Rattle.totals.specs.Totals.{total}
use Rattle.booking.specs.Variation.{variation_at, variation}
use Rattle.booking.specs.Carried.{all_carried}
use Rattle.holdings.specs.Holdings.{new_holdings, with_trade}
use Rattle.holdings.specs.Limits.{totals_of, is_over, side_of, refusal_of}
use Rattle.holdings.specs.declared.Holdings.{Holdings}
use Rattle.holdings.specs.declared.Side.{Side}
use Rattle.holdings.specs.declared.Side.TheVariants.{Passes}
use Rattle.closing.specs.DayEnd.{at_close, over_limit, requirement, with_core}
use Rattle.closing.specs.declared.DayEnd.{DayEnd}
use Rattle.funds.specs.Funds.{new_funds, billed, paid_up, settled, paid_in, after}
use Rattle.funds.specs.declared.Funds.{Funds}
use Rattle.accounts.specs.Accounts.{new_account, closed}
use Rattle.accounts.specs.declared.Account.{Account}

-- ---- the day
-- Document 01, A printed day: "start 3,000,000, 100, none; .. list rates 23,000, margin rates 3,000,000".
-- No contract ends, and each settles at its list rate, by rule 4.
abbrev day : DayEnd
day = record {
  marks = replicate 6 (record { previous = pos 23000; rate = pos 23000; ending = false });
  margins = replicate 6 3000000;
  reference = 3000000;
  multiplier = 100;
}

-- contracts stand by rising code: 2309, 2310, 2311, 2312, 2403, 2406
abbrev row2312 : ℕ
row2312 = 3

-- "enrol 1000001 and 1000002, limit 10, tolerance 0; each pays in 100,000,000; open ..; settle"
abbrev enrolled : ℕ → Account
enrolled number = new_account number (record { clearing = 10; tolerance = pos 0 }) day.reference

abbrev paid_and_settled : Funds → Funds
paid_and_settled f = (settled (after f (paid_in f (pos 100000000)))).funds

-- "trade 34,200, 2312, 1000001, 1000002, 4, 23,100": the lots are signed, bought above zero
abbrev with_lots : Holdings → ℤ → ℤ → Holdings
with_lots h lots rate = with_trade h row2312 lots rate

abbrev traded : Account → ℤ → Account
traded a lots = record {
  number = a.number;
  holdings = with_lots a.holdings lots (pos 23100);
  funds = paid_and_settled a.funds;
}

abbrev buyer : Account
buyer = traded (enrolled 1000001) (pos 4)

abbrev seller : Account
seller = traded (enrolled 1000002) (neg_ℤ (pos 4))

-- ---- the close
-- "account, account, day's variation, due, requirement, free"
record Line : Type 0 where
  account : ℕ
  variation : ℤ
  due : ℤ
  requirement : ℤ
  free : ℤ

abbrev line_of : Account → Line
line_of a = record {
  account = a.number;
  variation = a.holdings.variation;
  due = a.funds.due;
  requirement = a.funds.requirement;
  free = a.funds.free;
}

abbrev line : ℕ → ℤ → ℤ → ℤ → ℤ → Line
line account variation due requirement free = record {
  account = account;
  variation = variation;
  due = due;
  requirement = requirement;
  free = free;
}

-- "account 1000001 -100000 -100000 30000000 -30100000", "account 1000002 100000 100000 30000000 -29900000"
pub printed-lines :
    (line_of (closed day buyer)
    ≡ line 1000001 (neg_ℤ (pos 100000)) (neg_ℤ (pos 100000)) (pos 30000000) (neg_ℤ (pos 30100000)))
    × (line_of (closed day seller) ≡ line 1000002 (pos 100000) (pos 100000) (pos 30000000) (neg_ℤ (pos 29900000)))
unfolding zipped sum_z larger hundredth_up with_deal total variation_at variation all_carried new_holdings with_trade at_close over_limit requirement with_core new_funds billed paid_up settled paid_in closed
printed-lines = (refl, refl)

-- ---- the next settle
-- 9. "Next settle above: account 1000001 has cash 69,900,000, margin 30,000,000, due 0."
abbrev next : Funds
next = (settled (closed day buyer).funds).funds

pub example-9 : (next.cash ≡ pos 69900000) × (next.margin ≡ pos 30000000) × (next.due ≡ pos 0)
unfolding zipped sum_z larger hundredth_up with_deal total variation_at variation all_carried new_holdings with_trade at_close over_limit requirement new_funds billed paid_up settled paid_in closed
example-9 = (refl, refl, refl)

-- ---- before the close
-- 10. "Above, before the close, a second purchase of 2312 by 1000001 from 1000002 of 6 lots passes; of 7 is refused 14." At
-- whatever rate: 10 lots come to 30,000,000, just the limit, and 11 to more, for both sides.
abbrev second : Account → ℤ → ℤ → Side
second a lots rate = side_of day.margins row2312 a.holdings (with_lots a.holdings lots rate)

abbrev just_within : Side
just_within = Passes (record { before = pos 12000000; after = pos 30000000; limit = pos 30000000 })

pub example-10-passes : (rate : ℤ)
    → (second buyer (pos 6) rate ≡ just_within) × (second seller (neg_ℤ (pos 6)) rate ≡ just_within)
unfolding zipped sum_z with_deal total new_holdings with_trade totals_of is_over side_of
example-10-passes rate = (refl, refl)

pub example-10-refused : (rate : ℤ)
    → (refusal_of (second buyer (pos 7) rate) ≡ 14) × (refusal_of (second seller (neg_ℤ (pos 7)) rate) ≡ 14)
unfolding zipped sum_z with_deal total new_holdings with_trade totals_of is_over side_of
example-10-refused rate = (refl, refl)
