-- Whose trades a desk's table holds: those of one account since the last close, in the order of acceptance, each with what its side was told.
use Rattle.std.specs.Prelude.{◌≡◌, Bool, cond, ◌||◌, List, [], ◌∷◌, ◌++◌, ℕ, eqb, ℤ, pos, length}
use Rattle.records.specs.Records.{Entry}
use Rattle.memory.specs.Memory.{Holds}
use Rattle.model.specs.Book.{Book}
use Rattle.model.specs.Calls.{Trade}
use Rattle.model.specs.Refusals.{side_totals}
use Rattle.model.specs.History.{Step, run, log, at_trade, at_close, deal_for}
use Rattle.standing.specs.Standing.{rows_of}
use Rattle.trail.specs.declared.Row.{Row}
use Rattle.trail.specs.Rows.{rows_in}

abbrev pub is_side : ℕ → Trade → Bool
is_side n t = eqb n t.buyer || eqb n t.seller

-- "with the other side named"
abbrev pub other_side : ℕ → Trade → ℕ
other_side n t = cond (eqb n t.buyer) t.seller t.buyer

-- a trade on a book as the account n sees it: "each side's total before and after and its limit"; nothing is earned before the close
abbrev pub row_of : Book → ℕ → Trade → Row
row_of b n t = record {
  code = t.code;
  time = t.time;
  other = other_side n t;
  lots = (deal_for n t).lots;
  rate = t.rate;
  before = (side_totals b t n).before;
  after = (side_totals b t n).after;
  limit = (side_totals b t n).limit;
  amount = pos 0;
}

unfoldable pub rows_today : ℕ → List Step → List Row
rows_today n [] = []
rows_today n (s ∷ l) =
    at_close s.call (λ final. [])
    (at_trade s.call (λ t. cond (is_side n t) (rows_today n l ++ (row_of s.before n t ∷ [])) (rows_today n l)) (rows_today n l))

-- the memory is that of the book after the calls h, and the table that of the account's trades since their last close
pub record Trailed (n : ℕ) (h : List Entry) (counts : List ℕ) (money : List ℤ) (row_counts : List ℕ) (row_money : List ℤ) (used : ℕ) : Type 0 where
  pub memory : Holds counts money (rows_of (run h))
  pub rows : rows_in row_counts row_money used ≡ rows_today n (log h)
  pub counts-long : length row_counts ≡ 30000
  pub money-long : length row_money ≡ 60000
