-- The words of a record's line (docs/GUIDE.md, 'A day as text'): one for each kind, and one before each value that needs one.
use Rattle.std.specs.Prelude.{List, [], ◌∷◌, ℕ, get_or}

-- start
abbrev start_word : List ℕ
start_word = 115 ∷ 116 ∷ 97 ∷ 114 ∷ 116 ∷ []

-- enrol
abbrev enrol-word : List ℕ
enrol-word = 101 ∷ 110 ∷ 114 ∷ 111 ∷ 108 ∷ []

-- pay-in
abbrev pay-in-word : List ℕ
pay-in-word = 112 ∷ 97 ∷ 121 ∷ 45 ∷ 105 ∷ 110 ∷ []

-- pay-out
abbrev pay-out-word : List ℕ
pay-out-word = 112 ∷ 97 ∷ 121 ∷ 45 ∷ 111 ∷ 117 ∷ 116 ∷ []

-- release
abbrev release-word : List ℕ
release-word = 114 ∷ 101 ∷ 108 ∷ 101 ∷ 97 ∷ 115 ∷ 101 ∷ []

-- special
abbrev special-word : List ℕ
special-word = 115 ∷ 112 ∷ 101 ∷ 99 ∷ 105 ∷ 97 ∷ 108 ∷ []

-- limits
abbrev limits-word : List ℕ
limits-word = 108 ∷ 105 ∷ 109 ∷ 105 ∷ 116 ∷ 115 ∷ []

-- open
abbrev open-word : List ℕ
open-word = 111 ∷ 112 ∷ 101 ∷ 110 ∷ []

-- trade
abbrev trade-word : List ℕ
trade-word = 116 ∷ 114 ∷ 97 ∷ 100 ∷ 101 ∷ []

-- quote
abbrev quote-word : List ℕ
quote-word = 113 ∷ 117 ∷ 111 ∷ 116 ∷ 101 ∷ []

-- settle
abbrev settle-word : List ℕ
settle-word = 115 ∷ 101 ∷ 116 ∷ 116 ∷ 108 ∷ 101 ∷ []

-- refresh
abbrev refresh-word : List ℕ
refresh-word = 114 ∷ 101 ∷ 102 ∷ 114 ∷ 101 ∷ 115 ∷ 104 ∷ []

-- close
abbrev close-word : List ℕ
close-word = 99 ∷ 108 ∷ 111 ∷ 115 ∷ 101 ∷ []

-- " reference "
abbrev before-reference : List ℕ
before-reference = 32 ∷ 114 ∷ 101 ∷ 102 ∷ 101 ∷ 114 ∷ 101 ∷ 110 ∷ 99 ∷ 101 ∷ 32 ∷ []

-- " multiplier "
abbrev before-multiplier : List ℕ
before-multiplier = 32 ∷ 109 ∷ 117 ∷ 108 ∷ 116 ∷ 105 ∷ 112 ∷ 108 ∷ 105 ∷ 101 ∷ 114 ∷ 32 ∷ []

-- " exceptions "
abbrev before-exceptions : List ℕ
before-exceptions = 32 ∷ 101 ∷ 120 ∷ 99 ∷ 101 ∷ 112 ∷ 116 ∷ 105 ∷ 111 ∷ 110 ∷ 115 ∷ 32 ∷ []

-- " "
abbrev space : List ℕ
space = 32 ∷ []

-- " limit "
abbrev before-limit : List ℕ
before-limit = 32 ∷ 108 ∷ 105 ∷ 109 ∷ 105 ∷ 116 ∷ 32 ∷ []

-- " tolerance "
abbrev before-tolerance : List ℕ
before-tolerance = 32 ∷ 116 ∷ 111 ∷ 108 ∷ 101 ∷ 114 ∷ 97 ∷ 110 ∷ 99 ∷ 101 ∷ 32 ∷ []

-- " amount "
abbrev before-amount : List ℕ
before-amount = 32 ∷ 97 ∷ 109 ∷ 111 ∷ 117 ∷ 110 ∷ 116 ∷ 32 ∷ []

-- " rates "
abbrev before-rates : List ℕ
before-rates = 32 ∷ 114 ∷ 97 ∷ 116 ∷ 101 ∷ 115 ∷ 32 ∷ []

-- " margins "
abbrev before-margins : List ℕ
before-margins = 32 ∷ 109 ∷ 97 ∷ 114 ∷ 103 ∷ 105 ∷ 110 ∷ 115 ∷ 32 ∷ []

-- " buyer "
abbrev before-buyer : List ℕ
before-buyer = 32 ∷ 98 ∷ 117 ∷ 121 ∷ 101 ∷ 114 ∷ 32 ∷ []

-- " seller "
abbrev before-seller : List ℕ
before-seller = 32 ∷ 115 ∷ 101 ∷ 108 ∷ 108 ∷ 101 ∷ 114 ∷ 32 ∷ []

-- " lots "
abbrev before-lots : List ℕ
before-lots = 32 ∷ 108 ∷ 111 ∷ 116 ∷ 115 ∷ 32 ∷ []

-- " rate "
abbrev before-rate : List ℕ
before-rate = 32 ∷ 114 ∷ 97 ∷ 116 ∷ 101 ∷ 32 ∷ []

-- " final "
abbrev before-final : List ℕ
before-final = 32 ∷ 102 ∷ 105 ∷ 110 ∷ 97 ∷ 108 ∷ 32 ∷ []

-- ---- by kind
abbrev pub words : List (List ℕ)
words =
    start_word ∷ enrol-word ∷ pay-in-word ∷ pay-out-word ∷ release-word ∷ special-word ∷ limits-word ∷
    open-word ∷ trade-word ∷ quote-word ∷ settle-word ∷ refresh-word ∷ close-word ∷ []

-- by kind and field: what stands before the field's value
abbrev pub labels : List (List (List ℕ))
labels =
    (before-reference ∷ before-multiplier ∷ before-exceptions ∷ []) ∷
    (space ∷ before-limit ∷ before-tolerance ∷ []) ∷
    (space ∷ before-amount ∷ []) ∷
    (space ∷ before-amount ∷ []) ∷
    (space ∷ before-amount ∷ []) ∷
    (space ∷ before-amount ∷ []) ∷
    (space ∷ before-limit ∷ before-tolerance ∷ []) ∷
    (space ∷ before-rates ∷ space ∷ space ∷ space ∷ space ∷ space ∷ before-margins ∷ space ∷ space ∷ space ∷ space ∷ space ∷ []) ∷
    (space ∷ space ∷ before-buyer ∷ before-seller ∷ before-lots ∷ before-rate ∷ []) ∷
    (space ∷ space ∷ space ∷ space ∷ []) ∷
    [] ∷
    [] ∷
    (before-final ∷ []) ∷ []

abbrev pub word_of : ℕ → List ℕ
word_of kind = get_or words kind []

abbrev pub label_of : ℕ → ℕ → List ℕ
label_of kind field = get_or (get_or labels kind []) field []
