-- A record that a desk follows: it is called on the book, and the account's table is that of the history with it.
use Rattle.std.specs.Prelude.{◌≡◌, true, false, cond, List, ◌∷◌, ℕ, ◌+◌, ◌-◌, ◌<◌, ◌≤◌, eqb, ℤ, pos, length, drop, get_or, Result, Ok, Err}
use Rattle.folding.specs.Fold.{unfolded}
use Rattle.records.specs.declared.Malformed.{Malformed}
use Rattle.records.specs.Records.{Entry, Parsed, unread, parsed, reading}
use Rattle.holdings.specs.declared.Totals.{Totals}
use Rattle.model.specs.Calls.{Trade}
use Rattle.model.specs.Answers as model
use Rattle.model.specs.History.{run, deal_for}
use Rattle.book.specs.declared.calls.Answer.{Answer}
use Rattle.book.specs.declared.calls.Answer.TheVariants.{Refused, NotNext, Done, BothSides, Closed}
use Rattle.book.specs.Called.{answer_of, Called}
use Rattle.trail.specs.declared.Row.{Row}
use Rattle.trail.specs.Tables.{Stored}
use Rattle.desk.specs.declared.following.Followed.{Followed}
use Rattle.desk.specs.Trails.{is_side, other_side, Trailed}

-- "8 trade | time, code, buyer, seller, lots, rate"
abbrev pub trade_in : List ℕ → Trade
trade_in fields = record {
  time = get_or fields 0 0;
  code = get_or fields 1 0;
  buyer = get_or fields 2 0;
  seller = get_or fields 3 0;
  lots = get_or fields 4 0;
  rate = unfolded (get_or fields 5 0);
}

-- a trade as a side sees it: the other side, the lots bought or sold, and its totals
abbrev pub row_with : Trade → ℕ → ℤ → Totals → Row
row_with t other lots side = record {
  code = t.code;
  time = t.time;
  other = other;
  lots = lots;
  rate = t.rate;
  before = side.before;
  after = side.after;
  limit = side.limit;
  amount = pos 0;
}

-- the row of the account n, where both sides' totals were answered
abbrev pub row_for : ℕ → Trade → Totals → Totals → Row
row_for n t buyer seller = row_with t (other_side n t) (deal_for n t).lots (cond (eqb n t.buyer) buyer seller)

-- ---- the table after an answer: an accepted trade of the account has the next row, an accepted close empties the table, and no other memory
-- changes
abbrev pub Kept : List ℕ → List ℤ → ℕ → List ℕ → List ℤ → ℕ → Type 0
Kept row_counts row_money used row_counts' row_money' used' = (row_counts' ≡ row_counts) × ((row_money' ≡ row_money) × (used' ≡ used))

abbrev pub Tabled : Answer → ℕ → Trade → List ℕ → List ℤ → ℕ → List ℕ → List ℤ → ℕ → Type 0
Tabled (Refused number) n t row_counts row_money used row_counts' row_money' used' = Kept row_counts row_money used row_counts' row_money' used'
Tabled (NotNext day) n t row_counts row_money used row_counts' row_money' used' = Kept row_counts row_money used row_counts' row_money' used'
Tabled Done n t row_counts row_money used row_counts' row_money' used' = Kept row_counts row_money used row_counts' row_money' used'
Tabled (BothSides buyer seller) n t row_counts row_money used row_counts' row_money' used' =
    (is_side n t ≡ true → Stored row_counts row_money used (row_for n t buyer seller) row_counts' row_money' × (used' ≡ used + 1))
    × (is_side n t ≡ false → Kept row_counts row_money used row_counts' row_money' used')
Tabled Closed n t row_counts row_money used row_counts' row_money' used' = Kept row_counts row_money 0 row_counts' row_money' used'

-- what that asks: room for a row, and lots in range
abbrev pub Notable : Answer → Trade → ℕ → Type 0
Notable (Refused number) t used = Unit {0}
Notable (NotNext day) t used = Unit {0}
Notable Done t used = Unit {0}
Notable (BothSides buyer seller) t used = (used < 10000) × (t.lots ≤ 1000)
Notable Closed t used = Unit {0}

-- ---- the record at a place
pub record FollowedOn (n : ℕ) (e : Entry) (a : Answer) (counts : List ℕ) (money : List ℤ) (row_counts : List ℕ) (row_money : List ℤ) (used : ℕ) (counts' : List ℕ) (money' : List ℤ) (row_counts' : List ℕ) (row_money' : List ℤ) (used' : ℕ) : Type 0 where
  pub called : Called counts money e a counts' money'
  pub tabled : Tabled a n (trade_in e.fields) row_counts row_money used row_counts' row_money' used'
  -- whichever history it was, the answer is the model's and the table that of the history with the record
  pub answers : (h : List Entry) → Trailed n h counts money row_counts row_money used → answer_of (run (e ∷ h)) a ≡ model.answer (run h) e
  pub trailed : (h : List Entry) → Trailed n h counts money row_counts row_money used → Trailed n (e ∷ h) counts' money' row_counts' row_money' used'

abbrev pub followed_to : ℕ → ℕ → Answer → Result Followed Malformed
followed_to next rows a = Ok (record { next = next; rows = rows; answer = a })

abbrev pub FollowedBy : Parsed → ℕ → List ℕ → ℕ → List ℕ → List ℤ → List ℕ → List ℤ → ℕ → Result Followed Malformed → List ℕ → List ℤ → List ℕ → List ℤ → Type 0
FollowedBy unread n bytes at counts money row_counts row_money used r counts' money' row_counts' row_money' =
    (r ≡ Err (record { at = at })) × ((counts' ≡ counts) × ((money' ≡ money) × ((row_counts' ≡ row_counts) × (row_money' ≡ row_money))))
FollowedBy (parsed e rest) n bytes at counts money row_counts row_money used r counts' money' row_counts' row_money' =
    (a : Answer) × ((used' : ℕ) × ((r ≡ followed_to (length bytes - length rest) used' a)
    × FollowedOn n e a counts money row_counts row_money used counts' money' row_counts' row_money' used'))

pub record FollowedAt (n : ℕ) (bytes : List ℕ) (at : ℕ) (counts : List ℕ) (money : List ℤ) (row_counts : List ℕ) (row_money : List ℤ) (used : ℕ) (r : Result Followed Malformed) (counts' : List ℕ) (money' : List ℤ) (row_counts' : List ℕ) (row_money' : List ℤ) : Type 0 where
  pub outcome : FollowedBy (reading (drop at bytes)) n bytes at counts money row_counts row_money used r counts' money' row_counts' row_money'

-- a memory and a table of some history
pub record Followable (n : ℕ) (counts : List ℕ) (money : List ℤ) (row_counts : List ℕ) (row_money : List ℤ) (used : ℕ) : Type 0 where
  pub history : List Entry
  pub trailed : Trailed n history counts money row_counts row_money used
