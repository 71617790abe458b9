-- What a loop over the records of a file needs of each.
use Rattle.std.specs.Prelude.{◌≡◌, List, ℕ, ◌+◌, ◌≤◌, ◌<◌, ℤ, length}
use Rattle.standing.specs.Made.{Sound}
use Rattle.printing.specs.declared.one_record.Printed.{Printed}
use Rattle.printing.specs.declared.one_record.Printed.TheVariants.{Next, Bad}

-- the next place is further on and within the bytes, and the text is not longer than the longest answer
abbrev pub Further : ℕ → ℕ → ℕ → Printed → Type 0
Further end at used (Next next after) = (at < next) × ((next ≤ end) × (after ≤ used + 8400))
Further end at used (Bad after) = after ≤ used + 8400

pub record Walks (bytes : List ℕ) (at : ℕ) (room : List ℕ) (used : ℕ) (r : Printed) (counts' : List ℕ) (money' : List ℤ) (room' : List ℕ) : Type 0 where
  pub sound : Sound counts' money'
  pub long : length room' ≡ length room
  pub further : Further (length bytes) at used r
