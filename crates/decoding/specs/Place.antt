-- What the code answers at a place of some bytes, by what stands there.
use Rattle.std.specs.Prelude.{cond, List, ℕ, ◌-◌, ltb, length, drop, Option, Some, None}
use Rattle.numbers.specs.Seven.{Got, none, got, decode}
use Rattle.numbers.specs.Several.{Numbers, nothing, some, many}

-- what was found in the bytes s, with the place after it
abbrev pub placed : List ℕ → Got → Option (ℕ × ℕ)
placed s none = None
placed s (got n rest) = Some (n, length s - length rest)

-- the number at a place, and the place after it
abbrev pub number_at : List ℕ → ℕ → Option (ℕ × ℕ)
number_at s at = placed s (decode (drop at s))

-- the place after some numbers
abbrev pub ended : List ℕ → Numbers → Option ℕ
ended s nothing = None
ended s (some l rest) = Some (length s - length rest)

-- what is stored in lent room, and where it ended
pub record Stored : Type 0 where
  pub end : Option ℕ
  pub room : List ℕ

abbrev pub stored : List ℕ → List ℕ → Numbers → Stored
stored s room nothing = record { end = None; room = room }
stored s room (some l rest) = record { end = Some (length s - length rest); room = l }

-- as many numbers as the room has, from a place on; a place past the end has none
abbrev pub stored_from : List ℕ → ℕ → List ℕ → Stored
stored_from s at room = cond (ltb (length s) at) (record { end = None; room = room }) (stored s room (many (length room) (drop at s)))
