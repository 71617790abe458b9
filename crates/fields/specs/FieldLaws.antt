-- What follows for records: how many fields a kind has, which are signed, and what a record's shape tells.
use Rattle.std.proofs.Math.Path.{◌≡◌, refl}
use Rattle.std.proofs.Common.{sym, ap, zero-le, leb→le}
use Rattle.std.specs.Prelude.{Bool, ◌&&◌, ℕ, zero, suc, ◌≤◌, ◌<◌, T, ltb, eqb, drop, replicate, Some, None}
use Rattle.std.proofs.Math.Bool.{true, false, cond, and-eq-true_iff}
use Rattle.std.specs.Bool.{beq}
use mathlib.Core.List.{List, [], ◌∷◌, map}
use Rattle.std.specs.List.{list_all}
use Rattle.std.proofs.Math.Decide.{dec_lt}
use native.Mathlib.Omega.{arith}
use Rattle.std.proofs.Math.Dec.{leb}
use Rattle.std.proofs.Math.ListN.{length, get_or-map, get_or-eq_default}
use Rattle.std.proofs.lemmas.List.{length-map}
use borrow.Author.Tests.{lt-ltb, le-ltb, ne_eqb, leb-true, ltb-true, eqb-true}
use Rattle.lists.specs.Table.{every, at_each}
use Rattle.lists.specs.Passing.{all}
use Rattle.fields.specs.Fields.{ceilings, is_signed, kinds, fields_of, known, count, count_of, signed_at, announced, is_zero, shaped}

-- ---- how many fields

-- k is none of the numbers below n, as a `match` with an arm for each of them leaves it
abbrev pub NoneBelow : ℕ → ℕ → Type 0
NoneBelow zero k = Unit {0}
NoneBelow (suc n) k = NoneBelow n k × (k ≡ n → ⊥)

pub none_below : (n k : ℕ) → NoneBelow n k → n ≤ k
none_below zero k h = zero-le
none_below (suc n) k h = let f = h.1 in omega (arith, none_below n k h.0)

module _ (kind : ℕ) where
  pub is_known : kind < 13 → known kind ≡ true
  unfolding kinds
  is_known h = lt-ltb kind 13 h

  pub is-unknown : 13 ≤ kind → known kind ≡ false
  unfolding kinds
  is-unknown h = le-ltb kind 13 h

  pub no_fields : 13 ≤ kind → fields_of kind ≡ []
  unfolding kinds
  no_fields h = get_or-eq_default kinds [] h

  pub counts-most : count kind ≤ 13
  unfolding kinds
  counts-most = go (dec_lt kind 13)
    where
      go : Dec (kind < 13) → count kind ≤ 13
      go (yes h) = rw (← get_or-map length kinds kind []) (leb→le _ 13 (at_each (λ k n. leb n 13) (map length kinds) tt kind h))
      go (no h) = rw (no_fields (omega arith)) (omega arith)

  pub counted : (n : ℕ) → count_of kind ≡ Some n → (kind < 13) × (n ≡ count kind)
  unfolding kinds
  counted n e = go (known kind) refl e
    where
      go : (t : Bool) → known kind ≡ t → cond t (Some (count kind)) None ≡ Some n → (kind < 13) × (n ≡ count kind)
      go true p q = (ltb-true kind 13 p, cc)
      go false p q = let z : ◌≡◌ {A = ℕ} 0 1 = cc in absurd (omega arith)

  pub uncounted : count_of kind ≡ None → 13 ≤ kind
  unfolding kinds
  uncounted e = go (dec_lt kind 13)
    where
      go : Dec (kind < 13) → 13 ≤ kind
      go (yes h) = let q : cond true (Some (count kind)) None ≡ None = rw (is_known h) at e in let z : ◌≡◌ {A = ℕ} 0 1 = cc in absurd (omega arith)
      go (no h) = omega arith

-- ---- which fields are signed

-- "Signed fields": the list rates of an open, and the one rate of a trade, a quote and a close
abbrev pub signed_by : ℕ → ℕ → Bool
signed_by kind field =
    cond (eqb kind 7) (ltb 0 field && ltb field 7)
    (cond (eqb kind 8) (eqb field 5) (cond (eqb kind 9) (eqb field 3) (cond (eqb kind 12) (eqb field 0) false)))

abbrev same_sign : ℕ → ℕ → ℕ → Bool
same_sign kind field n = beq (signed_at kind field) (signed_by kind field)

abbrev same_signs : ℕ → ℕ → Bool
same_signs kind n = every (same_sign kind) 0 (replicate 13 0)

all_same : T (every same_signs 0 (replicate 13 0))
unfolding kinds ceilings
all_same = tt

same-is : (a b : Bool) → T (beq a b) → a ≡ b
same-is true true t = refl
same-is true false t = absurd t
same-is false true t = absurd t
same-is false false t = refl

none-signed : (t u v w : Bool) → cond t false (cond u false (cond v false (cond w false false))) ≡ false
none-signed true u v w = refl
none-signed false true v w = refl
none-signed false false true w = refl
none-signed false false false true = refl
none-signed false false false false = refl

pub signed_is : (kind field : ℕ) → signed_at kind field ≡ signed_by kind field
signed_is kind field = go (dec_lt kind 13) (dec_lt field 13)
  where
    go : Dec (kind < 13) → Dec (field < 13) → signed_at kind field ≡ signed_by kind field
    go (yes h) (yes k) = same-is _ _ (at_each (same_sign kind) (replicate 13 0) (at_each same_signs (replicate 13 0) all_same kind h) field k)
    go (yes h) (no k) =
        let m : length (map is_signed (fields_of kind)) ≤ field = rw length-map (omega (arith, counts-most kind)) in
        rw (get_or-eq_default (map is_signed (fields_of kind)) false m, le-ltb field 7 (omega arith), lt-ltb 0 field (omega arith), ne_eqb field 5 (omega arith), ne_eqb field 3 (omega arith), ne_eqb field 0 (omega arith))
        (sym (none-signed (eqb kind 7) (eqb kind 8) (eqb kind 9) (eqb kind 12)))
    go (no h) k = rw (no_fields kind (omega arith), ne_eqb kind 7 (omega arith), ne_eqb kind 8 (omega arith), ne_eqb kind 9 (omega arith), ne_eqb kind 12 (omega arith))

-- ---- all elements, tested by the library

pub all-listed : (test : ℕ → Bool) (l : List ℕ) → list_all test l ≡ all test l
unfolding all
all-listed test [] = refl
all-listed test (x ∷ l) = ap (λ t. test x && t) (all-listed test l)

-- ---- what a record's shape tells

pub record Shaped (kind : ℕ) (fields : List ℕ) (exceptions : ℕ) : Type 0 where
  pub below : kind < 13
  pub zeros : all is_zero (drop (count kind) fields) ≡ true
  pub few : announced kind fields ≤ 400
  pub there : exceptions ≡ announced kind fields

pub shape-tells : (kind : ℕ) (fields : List ℕ) (exceptions : ℕ) → shaped kind fields exceptions ≡ true → Shaped kind fields exceptions
unfolding kinds
shape-tells kind fields exceptions e =
    let a = (and-eq-true_iff (known kind) _).0 e in
    let b = (and-eq-true_iff (all is_zero (drop (count kind) fields)) _).0 a.1 in
    let c = (and-eq-true_iff (leb (announced kind fields) 400) _).0 b.1 in
    record { below = ltb-true kind 13 a.0; zeros = b.0; few = leb-true _ _ c.0; there = eqb-true _ _ c.1 }
