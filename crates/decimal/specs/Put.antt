-- Text put into lent room at a place.
use Rattle.std.specs.Prelude.{◌≡◌, List, ℕ, ◌+◌, length}
use Rattle.lists.specs.Parts.{with_part}

-- the text stands at the place, the answer is the place after it, and all else stays
pub record Put (room : List ℕ) (at : ℕ) (text : List ℕ) (after : ℕ) (room' : List ℕ) : Type 0 where
  pub place : after ≡ at + length text
  pub holds : room' ≡ with_part at (length text) room text
