-- The sum of the sizes of a list's numbers: no partial sum is larger, whatever the signs.
use Rattle.std.specs.Prelude.{◌≡◌, List, [], ◌∷◌, ℕ, zero, suc, ◌+◌, ◌≤◌, ◌<◌, length, get_or, set, ℤ, pos, nat_abs}
use Rattle.std.proofs.Common.{not-suc-le-zero, le_of_suc-le-suc, arith}
use Rattle.whole.specs.Within.{nat_abs-+}
use Rattle.whole.specs.Sums.{sum_z}

unfoldable pub sizes : List ℤ → ℕ
sizes [] = 0
sizes (x ∷ xs) = nat_abs x + sizes xs

pub sum-sizes : (xs : List ℤ) → nat_abs (sum_z xs) ≤ sizes xs
unfolding sum_z sizes
sum-sizes [] = omega arith
sum-sizes (x ∷ xs) = omega (arith, nat_abs-+ x (sum_z xs), sum-sizes xs)

pub sizes-at : (xs : List ℤ) (i : ℕ) → nat_abs (get_or xs i (pos 0)) ≤ sizes xs
unfolding sizes
sizes-at [] i = omega arith
sizes-at (x ∷ xs) zero = omega arith
sizes-at (x ∷ xs) (suc i) = omega (arith, sizes-at xs i)

-- a store moves it by what it changes
pub sizes-set : (xs : List ℤ) (i : ℕ) (v : ℤ) → i < length xs
    → sizes (set xs i v) + nat_abs (get_or xs i (pos 0)) ≡ sizes xs + nat_abs v
unfolding sizes
sizes-set [] i v h = absurd (not-suc-le-zero h)
sizes-set (x ∷ xs) zero v h = omega arith
sizes-set (x ∷ xs) (suc i) v h = omega (arith, sizes-set xs i v (le_of_suc-le-suc h))
