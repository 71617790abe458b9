-- Whether a list has a number, and where; and that it has none twice.
use Rattle.std.specs.Prelude.{◌≡◌, Bool, false, cond, ◌||◌, List, [], ◌∷◌, ℕ, suc, eqb}

unfoldable pub has : ℕ → List ℕ → Bool
has k [] = false
has k (n ∷ ns) = eqb k n || has k ns

-- the place of the first k, or the length where there is none
unfoldable pub place_of : ℕ → List ℕ → ℕ
place_of k [] = 0
place_of k (n ∷ ns) = cond (eqb k n) 0 (suc (place_of k ns))

-- no number twice
abbrev pub Distinct : List ℕ → Type 0
Distinct [] = Unit {0}
Distinct (k ∷ ks) = (has k ks ≡ false) × Distinct ks
