-- Ranges: what document 01, 'Units and ceilings' and 'Refusal numbers', says of what a record's fields may hold.
use Rattle.std.specs.Prelude.{Bool, true, false, ◌&&◌, cond, List, [], ◌∷◌, ℕ, ℤ, pos, neg_ℤ, length, ⊤, Result, Ok, Err}
use Rattle.std.specs.Int.Signed.{le_z}
use Rattle.lists.specs.Passing.{all}
use Rattle.days.specs.Days.{rising}
use Rattle.folding.specs.Fold.{unfolded}
use Rattle.fields.specs.Fields.{Quantity, day, Ceilings, between, signed_to, ceilings, fields_of, shaped}
use Rattle.ranges.specs.declared.OutOfRange.{OutOfRange}

-- ---- a field

-- the table's two columns, "from" and "to"
abbrev pub lowest : Ceilings → ℤ
lowest (between a b) = pos a
lowest (signed_to b) = neg_ℤ (pos b)

abbrev pub highest : Ceilings → ℤ
highest (between a b) = pos b
highest (signed_to b) = pos b

-- the number that a written one stands for: "Signed fields .. are folded first"
abbrev pub meant : Ceilings → ℕ → ℤ
meant (between a b) n = pos n
meant (signed_to b) n = unfolded n

abbrev pub from : Quantity → ℤ
from q = lowest (ceilings q)

abbrev pub to : Quantity → ℤ
to q = highest (ceilings q)

abbrev pub value : Quantity → ℕ → ℤ
value q n = meant (ceilings q) n

-- "field out of range": the number meant is not from the quantity's least to its greatest
abbrev pub within_ceilings : Quantity → ℕ → Bool
within_ceilings q n = le_z (from q) (value q n) && le_z (value q n) (to q)

-- ---- a record

-- each field within its quantity's ceilings
unfoldable pub all_within : List Quantity → List ℕ → Bool
all_within [] fields = true
all_within (q ∷ more) [] = false
all_within (q ∷ more) (n ∷ fields) = within_ceilings q n && all_within more fields

-- "All fields are range-checked, also those not used"; "strictly rising"
abbrev pub in_range : ℕ → List ℕ → List ℕ → Bool
in_range kind fields exceptions =
    shaped kind fields (length exceptions) && (all_within (fields_of kind) fields && (all (within_ceilings day) exceptions && rising exceptions))

-- Number 2 is "field out of range, or exceptions not rising"
abbrev pub number_of : OutOfRange → ℕ
number_of why = 2

abbrev pub checked : ℕ → List ℕ → List ℕ → Result ⊤ OutOfRange
checked kind fields exceptions = cond (in_range kind fields exceptions) (Ok tt) (Err (record {}))

-- the refusal's number in document 01, 0 for none
abbrev pub refusal_of : Result ⊤ OutOfRange → ℕ
refusal_of (Ok passed) = 0
refusal_of (Err why) = number_of why
