-- A list filled up to a length.
use Rattle.std.specs.Prelude.{List, ◌++◌, ℕ, ◌-◌, length, replicate}

abbrev pub padded : {X : Type 0} → ℕ → X → List X → List X
padded n d l = l ++ replicate (n - length l) d
