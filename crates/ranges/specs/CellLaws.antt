-- What follows for cells: the steps by which the code walks, ranges as written, and that in range cell by cell is in range.
use Rattle.std.specs.Prelude.{◌≡◌, refl, Bool, true, false, ◌&&◌, List, [], ◌∷◌, map, ℕ, zero, suc, ◌≤◌, ◌<◌, leb, length, get_or, drop}
use Rattle.std.specs.List.{list_all, zip}
use Rattle.std.proofs.Common.{sym, ap, ap₂, ◌∙◌, arith, le-leb, ne_eqb}
use Rattle.std.proofs.Math.Bool.{and_assoc, and-false}
use Rattle.std.proofs.Math.Decide.{ℕ_discrete}
use Rattle.std.proofs.Math.Dec.{leb-zero}
use Rattle.std.proofs.lemmas.Bool.{lt-leb}
use Rattle.lists.specs.Table.{every}
use Rattle.lists.specs.Passing.{all}
use Rattle.lists.specs.Rows.{get_d-map-below}
use Rattle.ranges.specs.declared.Row.{Row}
use Rattle.fields.specs.Fields.{Quantity, ceilings, is_zero, kinds, fields_of}
use Rattle.ranges.specs.Ranges.{within_ceilings, all_within}
use Rattle.ranges.specs.RangeLaws.{within-written}
use Rattle.ranges.specs.Cells.{cell_within, cells_within, least, greatest, ends, row}

-- ---- ranges as written

-- a cell past the kind's fields goes from 0 to 0
zero-written : (n : ℕ) → is_zero n ≡ leb 0 n && leb n 0
zero-written n = go (ℕ_discrete n 0)
  where
    go : Dec (n ≡ 0) → is_zero n ≡ leb 0 n && leb n 0
    go (yes e) = rw e
    go (no e) = rw (ne_eqb n 0 e, leb-zero n, lt-leb n 0 (omega arith))

-- a cell holds what is between the two ends at its place
cell-between : (cells : ℕ) (quantities : List Quantity) (place n : ℕ) → place < cells → cell_within quantities place n ≡ leb (get_or (ends least quantities cells) place 0) n && leb n (get_or (ends greatest quantities cells) place 0)
unfolding cell_within ends
cell-between zero quantities place n h = absurd (omega arith)
cell-between (suc cells) [] zero n h = zero-written n
cell-between (suc cells) [] (suc place) n h = cell-between cells [] place n (omega arith)
cell-between (suc cells) (q ∷ more) zero n h = within-written (ceilings q) n
cell-between (suc cells) (q ∷ more) (suc place) n h = cell-between cells more place n (omega arith)

-- ---- the code's table: a row for each kind

pub row_at : (table : List Row) (kind : ℕ) (d : Row) → kind < 13 → table ≡ map row kinds → get_or table kind d ≡ row (fields_of kind)
unfolding kinds
row_at table kind d known e = ap (λ t. get_or t kind d) e ∙ get_d-map-below row kinds kind [] d known

module _ (quantities : List Quantity) (place n : ℕ) (inside : place < 13) where
  abbrev bottom : ℕ
  bottom = get_or (row quantities).least place 0

  abbrev top : ℕ
  top = get_or (row quantities).greatest place 0

  pub under-row : n < bottom → cell_within quantities place n ≡ false
  under-row h = cell-between 13 quantities place n inside ∙ rw (lt-leb bottom n h)

  pub over-row : top < n → cell_within quantities place n ≡ false
  over-row h = cell-between 13 quantities place n inside ∙ rw (lt-leb n top h, and-false (leb bottom n))

  pub in_row : bottom ≤ n → n ≤ top → cell_within quantities place n ≡ true
  in_row h k = cell-between 13 quantities place n inside ∙ rw (le-leb bottom n h, le-leb n top k)

-- ---- in range cell by cell

shifted : (q : Quantity) (more : List Quantity) (cells : List ℕ) (i : ℕ) → every (cell_within (q ∷ more)) (suc i) cells ≡ every (cell_within more) i cells
unfolding cell_within
shifted q more [] i = refl
shifted q more (n ∷ cells) i = ap (λ t. cell_within more i n && t) (shifted q more cells (suc i))

all-zero : (cells : List ℕ) (i : ℕ) → every (cell_within []) i cells ≡ all is_zero cells
unfolding cell_within all
all-zero [] i = refl
all-zero (n ∷ cells) i = ap (λ t. is_zero n && t) (all-zero cells (suc i))

-- ---- the code's test: each cell beside its two ends

abbrev pub between_ends : ℕ × (ℕ × ℕ) → Bool
between_ends p = leb p.1.0 p.0 && leb p.0 p.1.1

every-zipped : (quantities : List Quantity) (count : ℕ) (cells : List ℕ) → length cells ≡ count
    → list_all between_ends (zip cells (zip (ends least quantities count) (ends greatest quantities count))) ≡ every (cell_within quantities) 0 cells
unfolding ends cell_within
every-zipped quantities zero [] h = refl
every-zipped quantities zero (n ∷ cells) h = absurd (omega arith)
every-zipped quantities (suc count) [] h = absurd (omega arith)
every-zipped [] (suc count) (n ∷ cells) h =
    ap₂ ◌&&◌ (sym (zero-written n)) (every-zipped [] count cells (omega arith) ∙ all-zero cells 0 ∙ sym (all-zero cells 1))
every-zipped (q ∷ more) (suc count) (n ∷ cells) h =
    ap₂ ◌&&◌ (sym (within-written (ceilings q) n)) (every-zipped more count cells (omega arith) ∙ sym (shifted q more cells 0))

pub zipped-within : (quantities : List Quantity) (cells : List ℕ) (r : Row) → length cells ≡ 13 → r ≡ row quantities
    → list_all between_ends (zip cells (zip r.least r.greatest)) ≡ cells_within quantities cells
zipped-within quantities cells r h e = rw e (every-zipped quantities 13 cells h)

pub cells_are : (quantities : List Quantity) (cells : List ℕ) → length quantities ≤ length cells → cells_within quantities cells ≡ all_within quantities cells && all is_zero (drop (length quantities) cells)
unfolding cell_within all_within
cells_are [] cells h = all-zero cells 0
cells_are (q ∷ more) [] h = absurd (omega arith)
cells_are (q ∷ more) (n ∷ cells) h =
    ap (λ t. within_ceilings q n && t) (shifted q more cells 0 ∙ cells_are more cells (omega arith))
    ∙ sym (and_assoc (within_ceilings q n) (all_within more cells) (all is_zero (drop (length more) cells)))
