-- Records: what document 01, 'Units and ceilings' and 'Event records', says of kinds and fields.
use Rattle.std.specs.Prelude.{Bool, true, false, ◌&&◌, cond, List, [], ◌∷◌, map, ℕ, ◌^◌, eqb, leb, ltb, length, get_or, drop, Option, Some, None}
use Rattle.lists.specs.Passing.{all}

-- ---- what a field holds

-- the quantities of 'Units and ceilings' that a record holds, and the number of exceptions
pub data Quantity : Type 0 where
  account lots margin_rate reference_rate clearing_limit tolerance special_margin amount : Quantity
  multiplier day time code side rate exception_count : Quantity

-- numbers from a to b without a sign, or signed numbers from -b to b
pub data Ceilings : Type 0 where
  between : ℕ → ℕ → Ceilings
  signed_to : ℕ → Ceilings

-- 'Units and ceilings', a line a quantity; "A rate is a signed whole number of 0.0001%, from -100,000 to 100,000";
-- "A start record lists up to 400 exception days"
unfoldable pub ceilings : Quantity → Ceilings
ceilings account = between 1 9999999
ceilings lots = between 1 1000
ceilings margin_rate = between 1 100000000
ceilings reference_rate = between 1 100000000
ceilings clearing_limit = between 0 1000000
ceilings tolerance = between 0 (10 ^ 14)
ceilings special_margin = between 0 (10 ^ 14)
ceilings amount = between 1 (10 ^ 14)
ceilings multiplier = between 100 1000
ceilings day = between 0 3652
ceilings time = between 0 86399
ceilings code = between 0 9999
ceilings side = between 0 1
ceilings rate = signed_to 100000
ceilings exception_count = between 0 400

-- "Signed fields (rates, but not margin or reference rates)"
abbrev pub has_sign : Ceilings → Bool
has_sign (between a b) = false
has_sign (signed_to b) = true

abbrev pub is_signed : Quantity → Bool
is_signed q = has_sign (ceilings q)

-- ---- kinds

-- "A record is a kind and its fields": the table of 'Event records', a line a kind
unfoldable pub kinds : List (List Quantity)
kinds =
    (reference_rate ∷ multiplier ∷ exception_count ∷ []) ∷
    (account ∷ clearing_limit ∷ tolerance ∷ []) ∷
    (account ∷ amount ∷ []) ∷
    (account ∷ amount ∷ []) ∷
    (account ∷ amount ∷ []) ∷
    (account ∷ special_margin ∷ []) ∷
    (account ∷ clearing_limit ∷ tolerance ∷ []) ∷
    (day ∷ rate ∷ rate ∷ rate ∷ rate ∷ rate ∷ rate ∷ margin_rate ∷ margin_rate ∷ margin_rate ∷ margin_rate ∷ margin_rate ∷ margin_rate ∷ []) ∷
    (time ∷ code ∷ account ∷ account ∷ lots ∷ rate ∷ []) ∷
    (time ∷ code ∷ side ∷ rate ∷ []) ∷
    [] ∷
    [] ∷
    (rate ∷ []) ∷ []

-- an unknown kind has no fields
abbrev pub fields_of : ℕ → List Quantity
fields_of kind = get_or kinds kind []

abbrev pub known : ℕ → Bool
known kind = ltb kind (length kinds)

abbrev pub count : ℕ → ℕ
count kind = length (fields_of kind)

abbrev pub count_of : ℕ → Option ℕ
count_of kind = cond (known kind) (Some (count kind)) None

-- whether a field of a kind is a signed one; past the kind's fields there is none
abbrev pub signed_at : ℕ → ℕ → Bool
signed_at kind field = get_or (map is_signed (fields_of kind)) field false

-- ---- records. The fields stand first in a list, with zeros after them

-- "0 start: reference rate, multiplier, number of exceptions, the exceptions"
abbrev pub announced : ℕ → List ℕ → ℕ
announced kind fields = cond (eqb kind 0) (get_or fields 2 0) 0

-- what stands past a kind's fields
abbrev pub is_zero : ℕ → Bool
is_zero n = eqb n 0

-- What bytes can say: "unknown kind, over 400 exceptions" are refused under 1
abbrev pub shaped : ℕ → List ℕ → ℕ → Bool
shaped kind fields exceptions =
    known kind && (all is_zero (drop (count kind) fields) && (leb (announced kind fields) 400 && eqb exceptions (announced kind fields)))
