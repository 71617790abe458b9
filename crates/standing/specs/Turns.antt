-- What is told of whatever rows a memory holds.
use Rattle.std.specs.Prelude.{◌≡◌, List, ℕ, ℤ}
use Rattle.memory.specs.Memory.{Rows, Shaped, Holds}

-- the memory holds these rows, and they have its form
pub record Whole (c : List ℕ) (m : List ℤ) (r : Rows) : Type 0 where
  pub shaped : Shaped r
  pub holds : Holds c m r

-- the memory holds rows of which something is known
pub record Has (P : Rows → Type 0) (c : List ℕ) (m : List ℤ) : Type 0 where
  pub rows : Rows
  pub whole : Whole c m rows
  pub known : P rows

-- what is read of the rows that a memory holds, and what is made of them
abbrev pub Tells : {A : Type 0} → List ℕ → List ℤ → A → (Rows → A) → Type 0
Tells c m a f = (r : Rows) → Whole c m r → a ≡ f r

abbrev pub Turns : List ℕ → List ℤ → List ℕ → List ℤ → (Rows → Rows) → Type 0
Turns c m c' m' f = (r : Rows) → Whole c m r → Whole c' m' (f r)
