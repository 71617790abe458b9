-- One member's default and the others. Request L10: "Treasury desks ask whether another's failure can alter their morning. Prove for one
-- settlement: two books alike but for the cash of one account give all other accounts the same margin, cash, due, flag and core; only that
-- account and the house may differ." Here the statements only; NeighbourLaws has the theorems.
use Rattle.std.specs.Prelude.{◌≡◌, false, cond, ℕ, eqb, ℤ, pos, ◌-ℤ◌}
use Rattle.funds.specs.Funds.{with_money}
use Rattle.funds.specs.declared.Funds.{Funds}
use Rattle.records.specs.Records.{Entry}
use Rattle.model.specs.Book.{Book, account_of}
use Rattle.model.specs.Calls.{pay_in, pay_out, settle, call_of}
use Rattle.model.specs.Effects.{paid}
use Rattle.model.specs.Refusals.{refusal}
use Rattle.model.specs.Answers.{called, answer}
use Rattle.model.specs.Kept.{Kept}

-- ---- two books that differ in one account
-- "alike but for the cash of one account": the one, with the other's cash on the account k, is the other
abbrev pub with_cash : Book → ℕ → ℤ → Book
with_cash b k cash = paid b k (with_money (b.accounts.funds k) cash (b.accounts.funds k).margin)

abbrev pub AlikeButCash : ℕ → Book → Book → Type 0
AlikeButCash k a b = with_cash a k (b.accounts.funds k).cash ≡ b

-- "only that account and the house may differ": the one, with the other's cash, margin, due and flag on k and the other's house, is the other
abbrev pub money_of : Funds → Funds → Funds
money_of f g = record { cash = g.cash; margin = g.margin; due = g.due; requirement = f.requirement; free = f.free; flag = g.flag }

abbrev with_house : Book → ℤ → Book
with_house b house = record { settings = b.settings; today = b.today; contracts = b.contracts; results = b.results; accounts = b.accounts; house = house }

abbrev pub with_money_of : Book → ℕ → Funds → ℤ → Book
with_money_of b k g house = with_house (paid b k (money_of (b.accounts.funds k) g)) house

abbrev pub AlikeButMoney : ℕ → Book → Book → Type 0
AlikeButMoney k a b = with_money_of a k (b.accounts.funds k) b.house ≡ b

-- ---- one settlement of both
pub record OthersSame (k : ℕ) (a b : Book) : Type 0 where
  -- "all other accounts the same margin, cash, due, flag and core": all that an account has
  pub others : (n : ℕ) → eqb n k ≡ false → account_of a n ≡ account_of b n
  pub no_more : AlikeButMoney k a b

pub record SameMorning (k : ℕ) (a b : Book) (e : Entry) : Type 0 where
  -- refused on both, under the same number, or on neither
  pub refusals : refusal a e ≡ refusal b e
  pub answers : answer a e ≡ answer b e
  pub after : OthersSame k (called a e) (called b e)

abbrev pub OneDefault : Type 0
OneDefault = (k : ℕ) (a b : Book) → AlikeButCash k a b → (e : Entry) → call_of e ≡ settle → SameMorning k a b e

-- the same where k's margin, due and flag or the house differ before it too
abbrev pub AnyMoney : Type 0
AnyMoney = (k : ℕ) (a b : Book) → AlikeButMoney k a b → (e : Entry) → call_of e ≡ settle → SameMorning k a b e

-- ---- books alike but for the cash of k: one in which a payment of k came, and one in which it did not
pub record PaymentApart : Type 0 where
  pub paid-in : (k : ℕ) (amount : ℤ) (b : Book) (e : Entry) → call_of e ≡ pay_in k amount → AlikeButCash k b (called b e)
  pub paid-out : (k : ℕ) (amount : ℤ) (b : Book) (e : Entry) → call_of e ≡ pay_out k amount → AlikeButCash k b (called b e)

-- ---- by how much the house differs, where both books are kept ones
-- what an accepted settlement has not paid to k: all that was due where k is in default after it, else nothing
abbrev pub unpaid : Book → Book → ℕ → ℤ
unpaid before after k = cond (after.accounts.funds k).flag (before.accounts.funds k).due (pos 0)

abbrev pub HouseApart : Type 0
HouseApart = (k : ℕ) (a b : Book) → Kept a → Kept b → AlikeButCash k a b → (e : Entry) → call_of e ≡ settle → refusal a e ≡ 0
    → (called a e).house -ℤ (called b e).house ≡ unpaid a (called a e) k -ℤ unpaid b (called b e) k
