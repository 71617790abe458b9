-- Worked bytes: document 01's marked example 2, the largest number, and forms that do not read.
use Rattle.std.specs.Prelude.{◌≡◌, refl, [], ◌∷◌, ◌-◌, ◌^◌}
use Rattle.numbers.specs.Seven.{none, got, groups, encode, unbounded, decode}

-- "80 00 is refused"
pub example-2-refused : decode (128 ∷ 0 ∷ []) ≡ none
unfolding unbounded
example-2-refused = refl

-- "00 is zero"
pub example-2-zero : decode (0 ∷ []) ≡ got 0 []
unfolding unbounded
example-2-zero = refl

zero-written : encode 0 ≡ 0 ∷ []
unfolding groups
zero-written = refl

two-groups : encode 300 ≡ 172 ∷ 2 ∷ []
unfolding groups
two-groups = refl

largest : encode (2 ^ 64 - 1) ≡ 255 ∷ 255 ∷ 255 ∷ 255 ∷ 255 ∷ 255 ∷ 255 ∷ 255 ∷ 255 ∷ 1 ∷ []
unfolding groups
largest = refl

largest-read : decode (255 ∷ 255 ∷ 255 ∷ 255 ∷ 255 ∷ 255 ∷ 255 ∷ 255 ∷ 255 ∷ 1 ∷ 7 ∷ []) ≡ got (2 ^ 64 - 1) (7 ∷ [])
unfolding unbounded
largest-read = refl

over-64-bits : decode (128 ∷ 128 ∷ 128 ∷ 128 ∷ 128 ∷ 128 ∷ 128 ∷ 128 ∷ 128 ∷ 2 ∷ []) ≡ none
unfolding unbounded
over-64-bits = refl

cut_short : decode (128 ∷ []) ≡ none
unfolding unbounded
cut_short = refl
