-- Text as programs read it: where a line ends, where digits end, and the number that digits stand for.
use Rattle.std.specs.Prelude.{Bool, not, ◌&&◌, cond, List, [], ◌∷◌, ℕ, suc, ◌+◌, ◌*◌, ◌-◌, leb, eqb, drop, Option, Some, None}

-- ---- places
-- How many bytes stand before the first that passes a test; all of them where none does.
unfoldable pub before : (ℕ → Bool) → List ℕ → ℕ
before p [] = 0
before p (x ∷ xs) = cond (p x) 0 (suc (before p xs))

-- The place of the first from a place on that passes a test, or the end. A place past the end is its own answer.
abbrev pub first_from : (ℕ → Bool) → List ℕ → ℕ → ℕ
first_from p text from = from + before p (drop from text)

abbrev pub byte_end : ℕ → List ℕ → ℕ → ℕ
byte_end byte = first_from (λ b. eqb b byte)

-- The digits 0 to 9 are the bytes 48 to 57.
abbrev pub is_digit : ℕ → Bool
is_digit byte = leb 48 byte && leb byte 57

-- A line ends at a line feed.
abbrev pub line_end : List ℕ → ℕ → ℕ
line_end = byte_end 10

abbrev pub digits_end : List ℕ → ℕ → ℕ
digits_end = first_from (λ byte. not (is_digit byte))

-- ---- numbers
abbrev pub most : ℕ
most = 18446744073709551615

-- n with one more digit behind it
abbrev pub with_digit : ℕ → ℕ → ℕ
with_digit n byte = 10 * n + (byte - 48)

-- The number that n and the digits behind it stand for: none where a byte is no digit, or where it passes 64 bits.
unfoldable pub number_from : ℕ → List ℕ → Option ℕ
number_from n [] = Some n
number_from n (x ∷ xs) = cond (is_digit x && leb (with_digit n x) most) (number_from (with_digit n x) xs) None

abbrev pub number_in : List ℕ → Option ℕ
number_in digits = number_from 0 digits
