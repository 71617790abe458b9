-- Search by a number: the first place that holds it, whatever the table's form. `at` reads a place.
use Rattle.std.specs.Prelude.{◌≡◌, refl, Bool, true, false, cond, ℕ, zero, suc, ◌+◌, ◌-◌, ◌≤◌, ◌<◌, eqb, Option, Some, None}
use Rattle.std.proofs.Common.{ap, ◌∙◌}
use native.Mathlib.Omega.{arith}
use borrow.Author.Tests.{eq-eqb, ne_eqb, eqb-true, eqb-false}

-- the first of `left` places from i on that holds n
unfoldable pub seek : (ℕ → ℕ) → ℕ → ℕ → ℕ → Option ℕ
seek at n zero i = None
seek at n (suc left) i = cond (eqb (at i) n) (Some i) (seek at n left (i + 1))

abbrev pub on_found : {A : Type 0} → Option ℕ → A → (ℕ → A) → A
on_found (Some i) none some = some i
on_found None none some = none

module _ (at : ℕ → ℕ) (n k i : ℕ) where
  one_more : i < k → k - i ≡ suc (k - (i + 1))
  one_more h = omega arith

  pub seek_hit : i < k → at i ≡ n → seek at n (k - i) i ≡ Some i
  unfolding seek
  seek_hit h e = rw (one_more h, eq-eqb (at i) n e)

  pub seek-miss : i < k → (at i ≡ n → ⊥) → seek at n (k - i) i ≡ seek at n (k - (i + 1)) (i + 1)
  unfolding seek
  seek-miss h e = rw (one_more h, ne_eqb (at i) n e)

  pub seek-none : k ≤ i → seek at n (k - i) i ≡ None
  unfolding seek
  seek-none h = let z : k - i ≡ 0 = omega arith in rw z

pub seek-below : (at : ℕ → ℕ) (n left i j : ℕ) → seek at n left i ≡ Some j → j < i + left
unfolding seek
seek-below at n zero i j e = let z : ◌≡◌ {A = ℕ} 0 1 = cc in omega arith
seek-below at n (suc left) i j e = go (eqb (at i) n) (seek-below at n left (i + 1) j) e
  where
    go : (t : Bool) → (seek at n left (i + 1) ≡ Some j → j < (i + 1) + left) → cond t (Some i) (seek at n left (i + 1)) ≡ Some j → j < i + suc left
    go true ih q = let z : i ≡ j = cc in omega arith
    go false ih q = omega (arith, ih q)

-- a search sees only the places that it goes to
pub seek-same : (f g : ℕ → ℕ) (n left i : ℕ) → ((k : ℕ) → k < i + left → f k ≡ g k) → seek f n left i ≡ seek g n left i
unfolding seek
seek-same f g n zero i h = refl
seek-same f g n (suc left) i h = rw (h i (omega arith), seek-same f g n left (i + 1) (λ k q. h k (omega arith)))

-- what a search found is what it looked for
pub seek-hits : (f : ℕ → ℕ) (n left i j : ℕ) → seek f n left i ≡ Some j → f j ≡ n
unfolding seek
seek-hits f n zero i j e = let z : ◌≡◌ {A = ℕ} 0 1 = cc in absurd (omega arith)
seek-hits f n (suc left) i j e = go (eqb (f i) n) refl (seek-hits f n left (i + 1) j) e
  where
    go : (t : Bool) → eqb (f i) n ≡ t → (seek f n left (i + 1) ≡ Some j → f j ≡ n) → cond t (Some i) (seek f n left (i + 1)) ≡ Some j → f j ≡ n
    go true p ih q = let z : i ≡ j = cc in rw (← z) (eqb-true (f i) n p)
    go false p ih q = ih q

-- where a search found nothing, no place that it went to holds the number
pub seek-misses : (f : ℕ → ℕ) (n left i j : ℕ) → seek f n left i ≡ None → i ≤ j → j < i + left → f j ≡ n → ⊥
unfolding seek
seek-misses f n zero i j e a b q = omega arith
seek-misses f n (suc left) i j e a b q = go (eqb (f i) n) refl (seek-misses f n left (i + 1) j) e
  where
    go : (t : Bool) → eqb (f i) n ≡ t → (seek f n left (i + 1) ≡ None → i + 1 ≤ j → j < (i + 1) + left → f j ≡ n → ⊥)
        → cond t (Some i) (seek f n left (i + 1)) ≡ None → ⊥
    go true p ih r = let z : ◌≡◌ {A = ℕ} 0 1 = cc in omega arith
    go false p ih r = ih r (let d : i ≡ j → ⊥ = λ z. eqb-false (f i) n p (ap f z ∙ q) in omega arith) (omega arith) q
