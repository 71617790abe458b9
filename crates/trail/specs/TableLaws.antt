-- A row stored is the next of the table's rows, and what rows earn is what their deals earn.
use Rattle.std.specs.Prelude.{◌≡◌, refl, List, [], ◌∷◌, ◌++◌, map, ◌⊎◌, ℕ, suc, ◌+◌, ◌*◌, ◌≤◌, ◌<◌, ℤ, pos, length}
use Rattle.std.proofs.Common.{sym, ap, inl, inr, mul-le-mul_right, arith}
use Rattle.std.proofs.lemmas.Simd.{map-map}
use Rattle.std.proofs.Math.Decide.{dec_lt}
use Rattle.lists.specs.Parts.{with_part, with_part-length, part_same, part-other}
use Rattle.lists.specs.Tabulate.{tab, tab-same}
use Rattle.whole.specs.Over.{sum_over}
use Rattle.whole.specs.Sums.{sum_z}
use Rattle.model.specs.Promises.{worth_at}
use Rattle.trail.specs.declared.Row.{Row}
use Rattle.trail.specs.Rows.{row_counts, row_money, row_at, rows_in, deal_of, worth}
use Rattle.trail.specs.Tables.{Stored}

-- ---- a row stored
module _ (counts : List ℕ) (money : List ℤ) (i : ℕ) (row : Row) where
  -- the cells of two rows are not the same
  beside : (w j : ℕ) → (j ≡ i → ⊥) → (j * w + w ≤ i * w) ⊎ (i * w + w ≤ j * w)
  beside w j ne = go (dec_lt j i)
    where
      go : Dec (j < i) → (j * w + w ≤ i * w) ⊎ (i * w + w ≤ j * w)
      go (yes p) = inl (omega (arith, mul-le-mul_right {m = j + 1} {n = i} w (omega arith)))
      go (no p) = inr (omega (arith, mul-le-mul_right {m = i + 1} {n = j} w (omega arith)))

  pub stored : i * 3 + 3 ≤ length counts → i * 6 + 6 ≤ length money
      → Stored counts money i row (with_part (i * 3) 3 counts (row_counts row)) (with_part (i * 6) 6 money (row_money row))
  stored p q = record {
    here = rw (part_same 0 (i * 3) 3 counts (row_counts row) refl p, part_same (pos 0) (i * 6) 6 money (row_money row) refl q);
    others = λ j ne.
        rw (
          part-other 0 (i * 3) 3 counts (row_counts row) refl p (j * 3) 3 (beside 3 j ne),
          part-other (pos 0) (i * 6) 6 money (row_money row) refl q (j * 6) 6 (beside 6 j ne),
        );
    counts-long = with_part-length 0 (i * 3) 3 counts (row_counts row) refl p;
    money-long = with_part-length (pos 0) (i * 6) 6 money (row_money row) refl q;
  }

-- at the place behind the rows in use it is one row more
pub row_more : {counts counts' : List ℕ} {money money' : List ℤ} {used : ℕ} {row : Row} → Stored counts money used row counts' money'
    → rows_in counts' money' (suc used) ≡ rows_in counts money used ++ (row ∷ [])
unfolding tab
row_more {counts} {counts'} {money} {money'} {used} s =
    rw (tab-same (row_at counts' money') (row_at counts money) used (λ j q. s.others j (omega arith)), s.here)

-- ---- what the rows earn is what the model's deals earn
pub worth-deals : (rate : ℤ) (rows : List Row) → sum_over (worth rate) rows ≡ sum_over (worth_at rate) (map deal_of rows)
worth-deals rate rows = ap sum_z (sym (map-map (worth_at rate) deal_of rows))
