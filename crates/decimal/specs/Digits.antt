-- The digits of a number counted out: how many it has, and so many of its last ones.
use Rattle.std.specs.Prelude.{List, [], ◌∷◌, ◌++◌, ℕ, zero, suc, ◌-◌, ◌/◌, ◌%◌, ◌^◌, ◌≤◌, ◌<◌}
use Rattle.decimal.specs.Decimal.{digit}

-- the last k digits of n, the most significant first
abbrev pub last_digits : ℕ → ℕ → List ℕ
last_digits zero n = []
last_digits (suc k) n = last_digits k (n / 10) ++ (digit (n % 10) ∷ [])

-- n has k digits, and no fewer: zero has one
abbrev pub IsDigitCount : ℕ → ℕ → Type 0
IsDigitCount n k = (1 ≤ k) × (n < 10 ^ k) × (1 < k → 10 ^ (k - 1) ≤ n)
