-- Rows written one after the other.
use Rattle.std.specs.Prelude.{List, [], ◌∷◌, ◌++◌}

unfoldable pub block : {X Y : Type 0} → (X → List Y) → List X → List Y
block cells [] = []
block cells (x ∷ xs) = cells x ++ block cells xs
