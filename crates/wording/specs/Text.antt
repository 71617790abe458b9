-- A record as a line of text (docs/GUIDE.md, 'A day as text'): its kind in a word, then each field after what says which it is.
use Rattle.std.specs.Prelude.{cond, ◌&&◌, ◌||◌, List, [], ◌∷◌, ◌++◌, ℕ, suc, ◌/◌, ◌%◌, eqb, ltb, ℤ, pos, negsuc, take}
use Rattle.lists.specs.Block.{block}
use Rattle.decimal.specs.Decimal.{digit, numeral, minus}
use Rattle.fields.specs.Fields.{count, signed_at}
use Rattle.folding.specs.Fold.{unfolded}
use Rattle.wording.specs.declared.values.Style.{Style}
use Rattle.wording.specs.declared.values.Style.TheVariants.{Plain, Rate, Time, Side}
use Rattle.wording.specs.Words.{word_of, label_of}

-- ---- values
-- two digits of a number below 100, four of one below 10000
abbrev pub two_digits : ℕ → List ℕ
two_digits n = digit (n / 10) ∷ digit (n % 10) ∷ []

abbrev pub four_digits : ℕ → List ℕ
four_digits n = two_digits (n / 100) ++ two_digits (n % 100)

-- "A rate is a signed whole number of 0.0001%": per cent with four places, as in 2.3100%
abbrev pub percent : ℕ → List ℕ
percent size = numeral (size / 10000) ++ (46 ∷ (four_digits (size % 10000) ++ (37 ∷ [])))

abbrev pub rate_text : ℤ → List ℕ
rate_text (pos n) = percent n
rate_text (negsuc n) = minus ∷ percent (suc n)

-- "time (seconds of day)": 09:30:00, and a number that is no time of a day as it is
abbrev pub clock_text : ℕ → List ℕ
clock_text n = two_digits (n / 3600) ++ (58 ∷ (two_digits (n / 60 % 60) ++ (58 ∷ two_digits (n % 60))))

abbrev pub time_text : ℕ → List ℕ
time_text n = cond (ltb n 86400) (clock_text n) (numeral n)

-- "quote side | 0 (bid) | 1 (offer)", and another number as it is
abbrev pub bid : List ℕ
bid = 98 ∷ 105 ∷ 100 ∷ []

abbrev pub offer : List ℕ
offer = 111 ∷ 102 ∷ 102 ∷ 101 ∷ 114 ∷ []

abbrev pub side_text : ℕ → List ℕ
side_text n = cond (eqb n 0) bid (cond (eqb n 1) offer (numeral n))

-- rates are the signed fields; a trade and a quote begin with a time; a quote's third field is its side
abbrev pub style_of : ℕ → ℕ → Style
style_of kind field =
    cond (signed_at kind field) Rate
    (cond (eqb field 0 && (eqb kind 8 || eqb kind 9)) Time (cond (eqb field 2 && eqb kind 9) Side Plain))

abbrev pub value_text : Style → ℕ → List ℕ
value_text Plain n = numeral n
value_text Rate n = rate_text (unfolded n)
value_text Time n = time_text n
value_text Side n = side_text n

-- ---- a record
abbrev pub field_text : ℕ → ℕ → ℕ → List ℕ
field_text kind field n = label_of kind field ++ value_text (style_of kind field) n

-- the fields of a kind from one of them on
unfoldable pub fields_text : ℕ → ℕ → List ℕ → List ℕ
fields_text kind field [] = []
fields_text kind field (n ∷ more) = field_text kind field n ++ fields_text kind (suc field) more

abbrev pub exception_text : ℕ → List ℕ
exception_text n = 32 ∷ numeral n

-- `fields` may have zeros after those of the kind
abbrev pub record_text : ℕ → List ℕ → List ℕ → List ℕ
record_text kind fields exceptions = word_of kind ++ (fields_text kind 0 (take (count kind) fields) ++ block exception_text exceptions)
