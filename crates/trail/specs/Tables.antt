-- What the table's functions promise.
use Rattle.std.specs.Prelude.{◌≡◌, List, map, ℕ, ◌*◌, ℤ, length, drop}
use Rattle.whole.specs.Within.{Within}
use Rattle.trail.specs.declared.Row.{Row}
use Rattle.trail.specs.Rows.{row_at, rows_in, priced, earned}

-- a trade as the ceilings allow it
pub record Modest (r : Row) : Type 0 where
  pub lots : Within 1000 r.lots
  pub rate : Within 100000 r.rate

-- one row is set, the others and all lengths stay
pub record Stored (counts : List ℕ) (money : List ℤ) (i : ℕ) (row : Row) (counts' : List ℕ) (money' : List ℤ) : Type 0 where
  pub here : row_at counts' money' i ≡ row
  pub others : (j : ℕ) → (j ≡ i → ⊥) → row_at counts' money' j ≡ row_at counts money j
  pub counts-long : length counts' ≡ length counts
  pub money-long : length money' ≡ length money

-- the first rows have their amounts where they are of the code, what is behind them stays, and the answer is what they earn
pub record Priced (counts : List ℕ) (money : List ℤ) (used code : ℕ) (rate sum : ℤ) (money' : List ℤ) : Type 0 where
  pub rows : rows_in counts money' used ≡ map (priced code rate) (rows_in counts money used)
  pub behind : drop (used * 6) money' ≡ drop (used * 6) money
  pub long : length money' ≡ length money
  pub sum_is : sum ≡ earned code rate (rows_in counts money used)
