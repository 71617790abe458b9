-- Two mornings that differ in one payment: in the one an account is in default after the settlement, in the other it is not. What request L10
-- promises of them (Neighbours of `model`), and what it does not promise.
use Rattle.std.specs.Prelude.{◌≡◌, true, false, List, ◌∷◌, pos, neg_ℤ}
use Rattle.records.specs.Records.{Entry}
use Rattle.funds.specs.declared.Funds.{Funds}
use Rattle.model.specs.Refusals.{refusal}
use Rattle.model.specs.History.{run}
use Rattle.model.specs.Entries.{pays_in, trades, settles}
use Rattle.model.specs.Neighbours.{AlikeButCash}
use Rattle.examples.specs.Alive.{rolled, in_default}

-- ---- the calls, the latest first: those of `rolled`, and there the second account pays in what it lacks, or does not
abbrev pub paid : List Entry
paid = pays_in 2 20000000 ∷ rolled

abbrev pub paid_up : List Entry
paid_up = settles ∷ paid

-- a trade on the same day, with the second account
abbrev pub later_trade : Entry
later_trade = trades 34200 2409 1 2 1 (pos 23000)

-- ---- what comes of them
-- the first account was called 29,900,000 and paid the 100,000 that were due to it
abbrev pub first_account : Funds
first_account = record { cash = pos 70100000; margin = pos 30000000; due = pos 0; requirement = pos 30000000; free = neg_ℤ (pos 29900000); flag = false }

pub record TwoMornings : Type 0 where
  pub alike : AlikeButCash 2 (run rolled) (run paid)
  -- one default, and none
  pub defaults : (((run in_default).accounts.funds 2).flag ≡ true) × (((run paid_up).accounts.funds 2).flag ≡ false)
  -- the first account's morning is the same
  pub first : ((run in_default).accounts.funds 1 ≡ first_account) × ((run paid_up).accounts.funds 1 ≡ first_account)
  -- the houses differ by the 100,000 that the second account owed, and did not pay in the one
  pub houses : ((run in_default).house ≡ neg_ℤ (pos 100000)) × ((run paid_up).house ≡ pos 0)
  -- what is not promised: that the rest of the day is the same
  pub later : (refusal (run in_default) later_trade ≡ 12) × (refusal (run paid_up) later_trade ≡ 0)
