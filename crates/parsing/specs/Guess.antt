-- The value that a text may stand for: a loose guess, right for the text of a value and anything for another text.
use Rattle.std.specs.Prelude.{cond, List, ℕ, ◌+◌, ◌*◌, ◌-◌, eqb, leb, get_or, take, drop, Option, Some, None}
use Rattle.scan.specs.Text.{byte_end, number_in}
use Rattle.wording.specs.declared.values.Style.{Style}
use Rattle.wording.specs.declared.values.Style.TheVariants.{Plain, Rate, Time, Side}

-- ---- digits
abbrev pub digit_at : List ℕ → ℕ → ℕ
digit_at word at = get_or word at 0 - 48

abbrev pub two_at : List ℕ → ℕ → ℕ
two_at word at = digit_at word at * 10 + digit_at word (at + 1)

abbrev pub or_zero : Option ℕ → ℕ
or_zero (Some n) = n
or_zero None = 0

abbrev pub number_of : List ℕ → ℕ
number_of word = or_zero (number_in word)

-- ---- by style
-- hours, minutes and seconds where the third byte is a colon
abbrev pub time_in : List ℕ → ℕ
time_in word = cond (eqb (get_or word 2 0) 58) (two_at word 0 * 3600 + two_at word 3 * 60 + two_at word 6) (number_of word)

-- what stands before the point, and four digits behind it
abbrev pub sized : ℕ → List ℕ → ℕ
sized whole places = cond (leb whole 922337203685477) (whole * 10000 + two_at places 1 * 100 + two_at places 3) 0

abbrev pub size_in : List ℕ → ℕ
size_in word = sized (number_of (take (byte_end 46 word 0) word)) (drop (byte_end 46 word 0) word)

abbrev pub doubled : ℕ → ℕ
doubled n = cond (leb n 9223372036854775807) (n * 2) 0

-- a rate below zero, folded: one less than twice its size
abbrev pub lowered : ℕ → ℕ
lowered size = cond (eqb size 0) 0 (doubled (size - 1) + 1)

abbrev pub rate_in : List ℕ → ℕ
rate_in word = cond (eqb (get_or word 0 0) 45) (lowered (size_in (drop 1 word))) (doubled (size_in word))

-- bid and offer by their first letters
abbrev pub side_in : List ℕ → ℕ
side_in word = cond (eqb (get_or word 0 0) 98) 0 (cond (eqb (get_or word 0 0) 111) 1 (number_of word))

abbrev pub guessed : Style → List ℕ → ℕ
guessed Plain word = number_of word
guessed Rate word = rate_in word
guessed Time word = time_in word
guessed Side word = side_in word
