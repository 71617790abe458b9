-- What is shown of a book.
use Rattle.std.specs.Prelude.{cond, List, [], ◌∷◌, ℕ, ltb, Option, Some, None}
use Rattle.lists.specs.Has.{has}
use Rattle.accounts.specs.declared.Account.{Account}
use Rattle.model.specs.Book.{Book, is_member}
use Rattle.model.specs.Answers as model
use Rattle.reports.specs.declared.Bill.{Bill}
use Rattle.rates.specs.declared.Settled.{Settled}

-- "`rate`, code, rate, rule, trades or counted quotes used"
abbrev pub rated_in : Book → ℕ → Option Settled
rated_in b c = cond (has c b.results.codes) (Some (b.results.settled c)) None

-- "`account`, account, day's variation, due, requirement, free"
abbrev bill_of : model.Bill → Bill
bill_of x = record { variation = x.variation; due = x.due; requirement = x.requirement; free = x.free }

abbrev pub billed_in : Book → ℕ → Option Bill
billed_in b n = cond (is_member b n) (Some (bill_of (model.bill_in b n))) None

-- the same of an account's row
abbrev pub bill_at : Account → Bill
bill_at a = record {
  variation = a.holdings.variation;
  due = a.funds.due;
  requirement = a.funds.requirement;
  free = a.funds.free;
}

-- "per contract by code", "per account by number": the lowest of some numbers that is not below another. One number more is
-- the lowest if it is not below that one and nothing lower was found
abbrev lower : ℕ → Option ℕ → Option ℕ
lower n None = Some n
lower n (Some k) = cond (ltb k n) (Some k) (Some n)

abbrev pub lower_from : ℕ → ℕ → Option ℕ → Option ℕ
lower_from from n found = cond (ltb n from) found (lower n found)

unfoldable pub lowest_from : ℕ → List ℕ → Option ℕ
lowest_from from [] = None
lowest_from from (n ∷ ns) = lower_from from n (lowest_from from ns)
