-- The rows of a desk's table: an account's trades of the day as it sees them, in two lists of numbers, three counts and six amounts a row.
use Rattle.std.specs.Prelude.{cond, List, [], ◌∷◌, ℕ, ◌+◌, ◌*◌, eqb, ℤ, pos, get_or, set}
use Rattle.lists.specs.Parts.{part}
use Rattle.lists.specs.Tabulate.{tab}
use Rattle.lists.specs.Those.{those}
use Rattle.whole.specs.Over.{sum_over}
use Rattle.positions.specs.Deals.{Deal}
use Rattle.model.specs.Promises.{worth_at}
use Rattle.trail.specs.declared.Row.{Row}

-- ---- which numbers a row is written as, and what such numbers mean
abbrev pub row_counts : Row → List ℕ
row_counts r = r.code ∷ r.time ∷ r.other ∷ []

abbrev pub row_money : Row → List ℤ
row_money r = r.lots ∷ r.rate ∷ r.before ∷ r.after ∷ r.limit ∷ r.amount ∷ []

abbrev pub row_of : List ℕ → List ℤ → Row
row_of c m = record {
  code = get_or c 0 0;
  time = get_or c 1 0;
  other = get_or c 2 0;
  lots = get_or m 0 (pos 0);
  rate = get_or m 1 (pos 0);
  before = get_or m 2 (pos 0);
  after = get_or m 3 (pos 0);
  limit = get_or m 4 (pos 0);
  amount = get_or m 5 (pos 0);
}

-- ---- where a row stands
abbrev pub row_at : List ℕ → List ℤ → ℕ → Row
row_at counts money i = row_of (part (i * 3) 3 counts) (part (i * 6) 6 money)

-- the first rows of a table
abbrev pub rows_in : List ℕ → List ℤ → ℕ → List Row
rows_in counts money used = tab (row_at counts money) used

-- ---- what a row's trade earns
-- "signed lots x (rate - traded rate)", at 250 fen: the amount of the model's line for it
abbrev pub deal_of : Row → Deal
deal_of r = record { lots = r.lots; rate = r.rate }

abbrev pub worth : ℤ → Row → ℤ
worth rate r = worth_at rate (deal_of r)

-- with the amount that it earns
abbrev pub with_amount : ℤ → Row → Row
with_amount amount r = record {
  code = r.code;
  time = r.time;
  other = r.other;
  lots = r.lots;
  rate = r.rate;
  before = r.before;
  after = r.after;
  limit = r.limit;
  amount = amount;
}

-- its amount is set where it is of the code
abbrev pub priced : ℕ → ℤ → Row → Row
priced code rate r = cond (eqb code r.code) (with_amount (worth rate r) r) r

-- and in the table the cell of its amount
abbrev pub priced_at : ℕ → ℤ → List ℕ → List ℤ → ℕ → List ℤ
priced_at code rate counts money i =
    let r = row_at counts money i in cond (eqb code r.code) (set money (i * 6 + 5) (worth rate r)) money

-- what one row adds to what those of the code earn
abbrev pub earned_by : ℕ → ℤ → Row → ℤ
earned_by code rate r = cond (eqb code r.code) (worth rate r) (pos 0)

-- what all of the code earn
abbrev pub earned : ℕ → ℤ → List Row → ℤ
earned code rate rows = sum_over (worth rate) (those (λ r. eqb code r.code) rows)
