-- The number that a loop reads: `value` is made of the groups passed, `scale` is what the next one counts.
use Rattle.std.specs.Prelude.{◌≡◌, refl, Bool, true, false, cond, ◌&&◌, List, ◌∷◌, ℕ, ◌+◌, ◌*◌, ◌-◌, ◌^◌, ◌≤◌, ◌<◌, ltb, length, get_or, drop, Option, Some, None}
use Rattle.std.proofs.Common.{ap, ◌∙◌, mul_assoc, add-mul, mul_comm, mul-le-mul, pow-suc, add-one, arith, lit<, drop_of_length-le, length-drop, drop-cons, lt-ltb, le-ltb}
use Rattle.std.proofs.Math.Nat.{pow-le-pow_right}
use Rattle.std.proofs.Math.Decide.{dec_lt}
use Rattle.numbers.specs.Seven.{Got, none, got, before, unbounded, bounded, decode}
use Rattle.numbers.specs.SevenLaws.{unbounded-last, unbounded-more}
use Rattle.decoding.specs.Place.{placed, number_at}

-- what one unit of a group counts, from the second group to the tenth
abbrev pub Scale : ℕ → Type 0
Scale scale = (k : ℕ) × (k ≤ 9) × (scale ≡ 128 ^ k)

-- a number's end: its last group is not zero, and the number has 64 bits
abbrev pub last_group : ℕ → ℕ → ℕ → ℕ → Option (ℕ × ℕ)
last_group value scale group next = cond (ltb 0 group && ltb (value + group * scale) (2 ^ 64)) (Some (value + group * scale, next)) None

-- what the whole number is, by what the higher groups are: these are not zero
abbrev pub onward : ℕ → ℕ → Got → Got
onward v sc none = none
onward v sc (got n r) = cond (ltb 0 n) (bounded (got (v + n * sc) r)) none

bounded-before : (b : ℕ) (g : Got) → bounded (before b g) ≡ onward (b - 128) 128 g
bounded-before b none = refl
bounded-before b (got n r) = go (ltb 0 n)
  where
    go : (t : Bool) → bounded (cond t (got (b - 128 + n * 128) r) none) ≡ cond t (bounded (got (b - 128 + n * 128) r)) none
    go true = refl
    go false = refl

onward-before : (v sc b : ℕ) (g : Got) → onward v sc (before b g) ≡ onward (v + (b - 128) * sc) (sc * 128) g
onward-before v sc b none = refl
onward-before v sc b (got n r) = go (dec_lt 0 n)
  where
    sum : v + (b - 128 + n * 128) * sc ≡ v + (b - 128) * sc + n * (sc * 128)
    sum = rw (add-mul (b - 128) (n * 128) sc, mul_assoc n 128 sc, mul_comm 128 sc) (omega arith)

    go : Dec (0 < n) → onward v sc (cond (ltb 0 n) (got (b - 128 + n * 128) r) none) ≡ onward (v + (b - 128) * sc) (sc * 128) (got n r)
    go (yes p) = rw (lt-ltb 0 n p, lt-ltb 0 (b - 128 + n * 128) (omega arith), sum)
    go (no p) = rw (le-ltb 0 n (omega arith))

onward-over : (v sc : ℕ) (g : Got) → 2 ^ 63 ≤ sc → (b : ℕ) → onward v sc (before b g) ≡ none
onward-over v sc none h b = refl
onward-over v sc (got n r) h b = go (dec_lt 0 n)
  where
    go : Dec (0 < n) → onward v sc (cond (ltb 0 n) (got (b - 128 + n * 128) r) none) ≡ none
    go (yes p) =
        let l : 128 ≤ b - 128 + n * 128 = omega arith in
        let big : 128 * 2 ^ 63 ≤ (b - 128 + n * 128) * sc = mul-le-mul l h in
        rw (lt-ltb 0 n p, lt-ltb 0 (b - 128 + n * 128) (omega arith), le-ltb (v + (b - 128 + n * 128) * sc) (2 ^ 64) (omega arith))
    go (no p) = rw (le-ltb 0 n (omega arith))

module _ (s : List ℕ) (i : ℕ) where
  pub after : i < length s → length s - length (drop (i + 1) s) ≡ i + 1
  after h = rw (length-drop (i + 1) s) (omega arith)

  next : i < length s → drop i s ≡ get_or s i 0 ∷ drop (i + 1) s
  next h = rw (add-one, drop-cons s i 0 h)

  pub at-end : length s ≤ i → number_at s i ≡ None
  unfolding unbounded
  at-end h = rw (drop_of_length-le s h)

  pub at_one : i < length s → get_or s i 0 < 128 → number_at s i ≡ Some (get_or s i 0, i + 1)
  at_one h p = rw (next h, unbounded-last (get_or s i 0) (drop (i + 1) s) p, lt-ltb (get_or s i 0) (2 ^ 64) (omega arith), after h)

  pub at_more : i < length s → 128 ≤ get_or s i 0 → decode (drop i s) ≡ onward (get_or s i 0 - 128) 128 (unbounded (drop (i + 1) s))
  at_more h p = rw (next h, unbounded-more (get_or s i 0) (drop (i + 1) s) p) (bounded-before (get_or s i 0) (unbounded (drop (i + 1) s)))

  pub step_end : (v sc : ℕ) → length s ≤ i → onward v sc (unbounded (drop i s)) ≡ none
  unfolding unbounded
  step_end v sc h = rw (drop_of_length-le s h)

  pub step-more : (v sc : ℕ) → i < length s → 128 ≤ get_or s i 0 → onward v sc (unbounded (drop i s)) ≡ onward (v + (get_or s i 0 - 128) * sc) (sc * 128) (unbounded (drop (i + 1) s))
  step-more v sc h p = rw (next h, unbounded-more (get_or s i 0) (drop (i + 1) s) p) (onward-before v sc (get_or s i 0) (unbounded (drop (i + 1) s)))

  pub step-over : (v sc : ℕ) → i < length s → 128 ≤ get_or s i 0 → 2 ^ 63 ≤ sc → onward v sc (unbounded (drop i s)) ≡ none
  step-over v sc h p q = rw (next h, unbounded-more (get_or s i 0) (drop (i + 1) s) p) (onward-over v sc (unbounded (drop (i + 1) s)) q (get_or s i 0))

  -- the last group
  pub step-last : (v sc : ℕ) → i < length s → get_or s i 0 < 128 → placed s (onward v sc (unbounded (drop i s))) ≡ last_group v sc (get_or s i 0) (i + 1)
  step-last v sc h p = rw (next h, unbounded-last (get_or s i 0) (drop (i + 1) s) p) (go (ltb 0 (get_or s i 0)) (ltb (v + get_or s i 0 * sc) (2 ^ 64)))
    where
      go : (t u : Bool) → placed s (cond t (cond u (got (v + get_or s i 0 * sc) (drop (i + 1) s)) none) none) ≡ cond (t && u) (Some (v + get_or s i 0 * sc, i + 1)) None
      go true true = ap (λ z. Some (v + get_or s i 0 * sc, z)) (after h)
      go true false = refl
      go false u = refl

-- ---- what fits
powers-under : (k : ℕ) → k ≤ 8 → 128 ^ k ≤ 2 ^ 56
powers-under k h = pow-le-pow_right {n = 128} (lit< tt) h

pub scale-more : (k sc : ℕ) → sc ≡ 128 ^ k → sc * 128 ≡ 128 ^ (k + 1)
scale-more k sc e = rw (add-one k, pow-suc 128 k, e)

-- a group that is not the tenth is one of the nine before it
pub scale-before : (k sc : ℕ) → k ≤ 9 → sc ≡ 128 ^ k → (sc ≡ 2 ^ 63 → ⊥) → k ≤ 8
scale-before k sc h e ne = go (dec_lt k 9)
  where
    go : Dec (k < 9) → k ≤ 8
    go (yes p) = omega arith
    go (no p) = let z : k ≡ 9 = omega arith in absurd (ne (e ∙ ap (λ k. 128 ^ k) z))

pub scale-under : (sc : ℕ) → Scale sc → (sc ≡ 2 ^ 63 → ⊥) → sc ≤ 2 ^ 56
scale-under sc (k, h, e) ne = rw e (powers-under k (scale-before k sc h e ne))

-- the group at i of a number that begins at `at`: what the tenth one counts by, what the others count by at most, and that each counts by a scale
module _ (i at sc : ℕ) (e : sc ≡ 128 ^ (i - at)) where
  pub scale-top : i ≡ at + 9 → sc ≡ 2 ^ 63
  scale-top h = let z : i - at ≡ 9 = omega arith in e ∙ ap (λ k. 128 ^ k) z

  pub scale-short : i ≤ at + 9 → (i ≡ at + 9 → ⊥) → sc ≤ 2 ^ 56
  scale-short h ne = rw e (powers-under (i - at) (omega arith))

  pub scale-is : i ≤ at + 9 → Scale sc
  scale-is h = (i - at, omega arith, e)

module _ (v b sc : ℕ) (h : v < sc) where
  pub sum-under : b < 128 → sc ≤ 2 ^ 56 → v + b * sc < 2 ^ 64
  sum-under k l = let m : b ≤ 127 = omega arith in let p : b * sc ≤ 127 * 2 ^ 56 = mul-le-mul m l in omega arith

  pub sum_over : 1 < b → sc ≡ 2 ^ 63 → 2 ^ 64 ≤ v + b * sc
  sum_over k l = let m : 2 ^ 63 ≤ sc = omega arith in let p : 2 * 2 ^ 63 ≤ b * sc = mul-le-mul k m in omega arith

  pub sum_below : b < 128 → v + b * sc < sc * 128
  sum_below k =
      let m : b ≤ 127 = omega arith in
      let r : sc ≤ sc = omega arith in
      let p : b * sc ≤ 127 * sc = mul-le-mul m r in
      omega arith
