-- An account keeps its bounds: through a close, which opens one more day of variation, and through a refresh.
use Rattle.std.specs.Prelude.{ℕ, ◌+◌, ◌≤◌}
use Rattle.lists.specs.Keep.{cond-keeps}
use Rattle.holdings.specs.Bounds.{Granted, GoodReference}
use Rattle.holdings.specs.Bounds as holdings
use Rattle.holdings.proofs.BoundLaws as holds
use Rattle.holdings.specs.declared.Limits.{Limits}
use Rattle.closing.specs.DayEnd.{at_close, full_core, with_core}
use Rattle.closing.specs.Bounds.{GoodDayEnd}
use Rattle.closing.proofs.BoundLaws.{close-sound, core-sound, core-amount, full-amount, requirement-amount}
use Rattle.closing.specs.declared.DayEnd.{DayEnd}
use Rattle.funds.specs.Bounds.{Billed}
use Rattle.funds.specs.BoundLaws as has
use Rattle.accounts.specs.Accounts.{new_account, bill_of, closed, with_holdings, refreshed}
use Rattle.accounts.specs.Bounds.{Sound}
use Rattle.accounts.specs.declared.Account.{Account}

pub new-sound : {l : Limits} {reference : ℕ} (number : ℕ) → Granted l → GoodReference reference
    → Sound 0 0 (new_account number l reference)
new-sound number g r = record { holdings = holds.new-sound g r; funds = has.new-sound }

-- more trades and days allow more
pub sound-later : {trades more days later : ℕ} {a : Account} → Sound trades days a → trades ≤ more → days ≤ later
    → Sound more later a
sound-later s t d = record { holdings = holds.sound-wider s.holdings t; funds = has.sound-later s.funds d }

-- ---- close
module _ {trades days : ℕ} {a : Account} {d : DayEnd} (s : Sound trades days a) (few : trades ≤ 10000) (g : GoodDayEnd d) where
  left : holdings.Sound 0 (at_close d a.holdings)
  left = close-sound s.holdings few g

  pub closed-sound : Sound 0 (days + 1) (closed d a)
  unfolding closed
  closed-sound = record {
    holdings = core-sound left (core-amount left g.reference (bill_of d (at_close d a.holdings) a.funds).free);
    funds = has.billed-sound s.funds left.variation (requirement-amount left g.reference g.multiplier);
  }

pub closed-billed : (d : DayEnd) (a : Account) → Billed (closed d a).funds
unfolding closed
closed-billed d a = has.billed-billed a.funds _ _

-- ---- refresh
pub refreshed-sound : {trades days : ℕ} {a : Account} {reference : ℕ} → Sound trades days a → GoodReference reference
    → Sound trades days (refreshed reference a)
unfolding refreshed
refreshed-sound {trades} {days} {a} {reference} s r =
    cond-keeps (Sound trades days) a.funds.flag a (with_holdings a (with_core a.holdings (full_core a.holdings reference)))
    (λ e. s)
    (λ e. record { holdings = core-sound s.holdings (full-amount s.holdings r); funds = s.funds })
