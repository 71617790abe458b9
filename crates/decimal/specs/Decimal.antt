-- Numbers as text: decimal digits, shortest form; and what a reader takes a signed text for.
use Rattle.std.specs.Prelude.{cond, List, [], ◌∷◌, ◌++◌, ℕ, zero, suc, ◌+◌, ◌/◌, ◌%◌, ltb, eqb, ℤ, pos, negsuc, neg_ℤ, get_or, drop, Option, Some, None}
use Rattle.scan.specs.Text.{number_in}

-- the digit d, 0 to 9, is the byte 48 + d
abbrev pub digit : ℕ → ℕ
digit d = 48 + d

-- the digits of n, where `most` are enough: a number below ten is its own digit, and another has its last digit behind those of its tenth
unfoldable pub digits_in : ℕ → ℕ → List ℕ
digits_in zero n = []
digits_in (suc most) n = cond (ltb n 10) (digit n ∷ []) (digits_in most (n / 10) ++ (digit (n % 10) ∷ []))

-- a number of 64 bits has 20 digits at most
abbrev pub numeral : ℕ → List ℕ
numeral n = digits_in 20 n

-- the minus sign
abbrev pub minus : ℕ
minus = 45

-- a number below zero has a minus sign before its size
abbrev pub signed_numeral : ℤ → List ℕ
signed_numeral (pos n) = numeral n
signed_numeral (negsuc n) = minus ∷ numeral (suc n)

-- ---- read back
-- a signed number, or that the bytes stand for none
pub data Taken : Type 0 where
  signed : ℤ → Taken
  none : Taken

abbrev pub taken_as : (ℕ → ℤ) → Option ℕ → Taken
taken_as sign (Some n) = signed (sign n)
taken_as sign None = none

-- a number as `scan::number_in` reads it, or one below zero behind a minus sign
abbrev pub signed_in : List ℕ → Taken
signed_in text = cond (eqb (get_or text 0 0) minus) (taken_as (λ n. neg_ℤ (pos n)) (number_in (drop 1 text))) (taken_as pos (number_in text))
