-- A number as bytes: document 01, 'Event records'.
use Rattle.std.specs.Prelude.{cond, List, [], ◌∷◌, ℕ, zero, suc, ◌+◌, ◌*◌, ◌-◌, ◌/◌, ◌%◌, ◌^◌, ltb}

-- "groups of seven bits, least significant group first, top bit set on all bytes but the last":
-- a number below 128 ^ k, in at most k groups
unfoldable pub groups : ℕ → ℕ → List ℕ
groups zero n = []
groups (suc k) n = cond (ltb n 128) (n ∷ []) ((n % 128 + 128) ∷ groups k (n / 128))

-- "at most 64 bits": ten groups
abbrev pub encode : ℕ → List ℕ
encode n = groups 10 n

-- a number and the bytes after it, or nothing
pub data Got : Type 0 where
  none : Got
  got : ℕ → List ℕ → Got

-- "shortest form only": a byte with its top bit set stands before higher groups that are not zero
abbrev pub before : ℕ → Got → Got
before b none = none
before b (got n rest) = cond (ltb 0 n) (got (b - 128 + n * 128) rest) none

-- the number at the start of some bytes, of any size
unfoldable pub unbounded : List ℕ → Got
unbounded [] = none
unbounded (b ∷ s) = cond (ltb b 128) (got b s) (before b (unbounded s))

-- "at most 64 bits"
abbrev pub bounded : Got → Got
bounded none = none
bounded (got n rest) = cond (ltb n (2 ^ 64)) (got n rest) none

-- the number at the start of some bytes
abbrev pub decode : List ℕ → Got
decode s = bounded (unbounded s)
