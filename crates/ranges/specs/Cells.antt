-- A record cell by cell, as the code tests it: a cell for each field of the kind, and after them cells that hold zero.
use Rattle.std.specs.Prelude.{Bool, List, [], ◌∷◌, ℕ, zero, suc, ◌*◌}
use Rattle.lists.specs.Table.{every}
use Rattle.ranges.specs.declared.Row.{Row}
use Rattle.fields.specs.Fields.{Quantity, Ceilings, between, signed_to, ceilings, is_zero}
use Rattle.ranges.specs.Ranges.{within_ceilings}

-- what the cell at a place may hold
unfoldable pub cell_within : List Quantity → ℕ → ℕ → Bool
cell_within [] place n = is_zero n
cell_within (q ∷ more) zero n = within_ceilings q n
cell_within (q ∷ more) (suc place) n = cell_within more place n

-- each cell holds what it may
abbrev pub cells_within : List Quantity → List ℕ → Bool
cells_within quantities cells = every (cell_within quantities) 0 cells

-- ---- ranges of the numbers as they are written. Folded, the numbers from -b to b are those from 0 to 2 b

abbrev pub least : Ceilings → ℕ
least (between a b) = a
least (signed_to b) = 0

abbrev pub greatest : Ceilings → ℕ
greatest (between a b) = b
greatest (signed_to b) = 2 * b

-- an end of the range of each of a kind's cells, 0 past its fields
unfoldable pub ends : (Ceilings → ℕ) → List Quantity → ℕ → List ℕ
ends end quantities zero = []
ends end [] (suc cells) = 0 ∷ ends end [] cells
ends end (q ∷ more) (suc cells) = end (ceilings q) ∷ ends end more cells

-- a kind's row of the code's table
abbrev pub row : List Quantity → Row
row quantities = record { least = ends least quantities 13; greatest = ends greatest quantities 13 }
