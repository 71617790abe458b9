-- The bytes of a file that are in hand, and what reading on leaves of them.
use Rattle.std.specs.Prelude.{◌≡◌, ◌≢◌, Bool, true, ◌⊎◌, List, [], ◌++◌, ℕ, ◌+◌, ◌-◌, ◌≤◌, ◌<◌, length, take, drop, Option, None, Some}
use Rattle.window.specs.declared.Window.{Window}

-- a window is a part of a block of so many bytes
abbrev pub Within : ℕ → Window → Type 0
Within size w = (w.from ≤ w.to) × (w.to ≤ size)

-- the bytes of a block that a window has
abbrev pub held : Window → List ℕ → List ℕ
held w block = drop w.from (take w.to block)

-- the window that begins at a place in the block
abbrev pub behind : Window → ℕ → Window
behind w at = record { from = at; to = w.to; place = w.place + (at - w.from); ended = w.ended }

-- what is left of a window behind a place: nothing where the file ends there
abbrev pub LeftOf : Window → ℕ → Option Window → Type 0
LeftOf w at None = (w.ended ≡ true) × (at ≡ w.to)
LeftOf w at (Some rest) = (rest ≡ behind w at) × (w.ended ≡ true → at ≢ w.to)

-- there is a next record, and the bytes that are left have it whole, since no record is longer than enough
abbrev pub IsWhole : ℕ → Bool → ℕ → Type 0
IsWhole left ended enough = (0 < left) × ((ended ≡ true) ⊎ (enough ≤ left))

-- The bytes in hand stay, and those that were read follow them; none are read where the file has ended. Afterwards it has ended, or enough are
-- in hand.
pub record Refilled (enough : ℕ) (w : Window) (block : List ℕ) (r : Window) (block' : List ℕ) : Type 0 where
  pub within : Within (length block) r
  pub got : List ℕ
  pub bytes : held r block' ≡ held w block ++ got
  pub place : r.place ≡ w.place
  pub none : w.ended ≡ true → (got ≡ []) × (r.ended ≡ true)
  pub plenty : (r.ended ≡ true) ⊎ (enough ≤ r.to - r.from)
