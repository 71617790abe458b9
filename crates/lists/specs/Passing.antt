-- The numbers below n that pass a test, in rising order; and a test of all elements of a list.
use Rattle.std.specs.Prelude.{◌≡◌, Bool, true, false, ◌&&◌, cond, List, [], ◌∷◌, ◌++◌, length, get_or, drop}
use Rattle.std.proofs.Math.Path.{refl}
use Rattle.std.proofs.Common.{sym, ap, ◌∙◌, append-nil, add-one, arith, length-append, drop_of_length-le, drop-cons}
use Rattle.std.proofs.lemmas.Bool.{false≢true}
use Rattle.std.proofs.Math.Bool.{and-eq-true_iff}
use Prim.Native.Nat.{ℕ, zero, suc, ◌+◌, ◌-◌, ◌≤◌, ◌<◌}
use Rattle.std.proofs.Math.Decide.{dec_lt}

unfoldable pub passing : (ℕ → Bool) → ℕ → List ℕ
passing p zero = []
passing p (suc n) = passing p n ++ cond (p n) (n ∷ []) []

unfoldable pub all : (ℕ → Bool) → List ℕ → Bool
all test [] = true
all test (x ∷ rest) = test x && all test rest

pub passing-zero : (p : ℕ → Bool) → passing p 0 ≡ []
unfolding passing
passing-zero p = refl

-- ---- one number more

module _ (p : ℕ → Bool) (n : ℕ) where
  pub passing-hit : p n ≡ true → passing p (n + 1) ≡ passing p n ++ (n ∷ [])
  unfolding passing
  passing-hit e = rw (add-one, e)

  pub passing-miss : p n ≡ false → passing p (n + 1) ≡ passing p n
  unfolding passing
  passing-miss e = rw (add-one, e) (append-nil (passing p n))

  pub count-hit : p n ≡ true → length (passing p (n + 1)) ≡ length (passing p n) + 1
  count-hit e = ap length (passing-hit e) ∙ length-append (passing p n) (n ∷ [])

  pub count-step : length (passing p (n + 1)) ≡ length (passing p n) + cond (p n) 1 0
  count-step = go (p n) refl
    where
      go : (t : Bool) → p n ≡ t → length (passing p (n + 1)) ≡ length (passing p n) + cond t 1 0
      go true e = count-hit e
      go false e = let z : length (passing p n) ≡ length (passing p n) + 0 = omega arith in ap length (passing-miss e) ∙ z

-- ---- counts

module _ (p : ℕ → Bool) where
  pub count-grows : (n k : ℕ) → length (passing p n) ≤ length (passing p (n + k))
  count-grows n zero = let z : n + 0 ≡ n = omega arith in rw z (omega arith)
  count-grows n (suc k) = let z : n + suc k ≡ n + k + 1 = omega arith in rw (z, count-step p (n + k)) (omega (arith, count-grows n k))

  pub count_past : (n k : ℕ) → n < k → p n ≡ true → length (passing p n) < length (passing p k)
  count_past n k h e = let z : n + 1 + (k - (n + 1)) ≡ k = omega arith in omega (arith, count-hit p n e, ap (λ i. length (passing p i)) z, count-grows (n + 1) (k - (n + 1)))

  pub passing-none : (n : ℕ) → ((k : ℕ) → k < n → p k ≡ false) → passing p n ≡ []
  unfolding passing
  passing-none zero h = refl
  passing-none (suc n) h = rw (passing-none n (λ k q. h k (omega arith)), h n (omega arith))

  -- from a number on, none passes
  pub passing-ends : (n k : ℕ) → ((i : ℕ) → n ≤ i → p i ≡ false) → passing p (n + k) ≡ passing p n
  passing-ends n zero h = let z : n + 0 ≡ n = omega arith in rw z
  passing-ends n (suc k) h = let z : n + suc k ≡ n + k + 1 = omega arith in rw z (passing-miss p (n + k) (h (n + k) (omega arith)) ∙ passing-ends n k h)

-- a weaker test passes at least as many
pub count-more : (p q : ℕ → Bool) (n : ℕ) → ((k : ℕ) → p k ≡ true → q k ≡ true) → length (passing p n) ≤ length (passing q n)
count-more p q zero h = rw (passing-zero p, passing-zero q) (omega arith)
count-more p q (suc n) h = rw (sym (add-one n), count-step p n, count-step q n) (go (p n) refl (count-more p q n h))
  where
    go : (t : Bool) → p n ≡ t → length (passing p n) ≤ length (passing q n) → length (passing p n) + cond t 1 0 ≤ length (passing q n) + cond (q n) 1 0
    go true e ih = rw (h n e) (omega arith)
    go false e ih = omega arith

-- ---- all elements

pub all_append : (test : ℕ → Bool) (a b : List ℕ) → all test (a ++ b) ≡ all test a && all test b
unfolding all
all_append test [] b = refl
all_append test (x ∷ a) b = go (test x) (all_append test a b)
  where
    go : (t : Bool) → all test (a ++ b) ≡ all test a && all test b → t && all test (a ++ b) ≡ (t && all test a) && all test b
    go true ih = ih
    go false ih = refl

-- what holds of all that pass holds of each
pub all-passing : (test p : ℕ → Bool) (n k : ℕ) → all test (passing p n) ≡ true → k < n → p k ≡ true → test k ≡ true
unfolding all passing
all-passing test p zero k a h e = absurd (omega arith)
all-passing test p (suc n) k a h e =
    let both = (and-eq-true_iff _ _).0 (sym (all_append test (passing p n) (cond (p n) (n ∷ []) [])) ∙ a) in
    go (dec_lt k n) both (all-passing test p n k both.0)
  where
    go : Dec (k < n) → (all test (passing p n) ≡ true) × (all test (cond (p n) (n ∷ []) []) ≡ true) → (k < n → p k ≡ true → test k ≡ true) → test k ≡ true
    go (yes u) both ih = ih u e
    go (no u) both ih = let z : n ≡ k = omega arith in ((and-eq-true_iff (test k) true).0 (rw (z, e) at both.1)).0

-- and where the test does not hold of all that pass, it fails for one of them
pub one-fails : (test p : ℕ → Bool) (n : ℕ) → all test (passing p n) ≡ false → (k : ℕ) × ((k < n) × ((p k ≡ true) × (test k ≡ false)))
unfolding all passing
one-fails test p zero a = absurd (false≢true (sym a))
one-fails test p (suc n) a = go (p n) refl (test n) refl (all test (passing p n)) refl
    (sym (all_append test (passing p n) (cond (p n) (n ∷ []) [])) ∙ a) (one-fails test p n)
  where
    go : (t : Bool) → p n ≡ t → (u : Bool) → test n ≡ u → (before : Bool) → all test (passing p n) ≡ before
        → before && all test (cond t (n ∷ []) []) ≡ false
        → (all test (passing p n) ≡ false → (k : ℕ) × ((k < n) × ((p k ≡ true) × (test k ≡ false))))
        → (k : ℕ) × ((k < suc n) × ((p k ≡ true) × (test k ≡ false)))
    go t e u f false q h ih = let r = ih q in (r.0, (omega arith, r.1.1))
    go true e false f true q h ih = (n, (omega arith, (e, f)))
    go true e true f true q h ih = absurd (false≢true (sym h ∙ rw f))
    go false e u f true q h ih = absurd (false≢true (sym h))

-- ---- a list tested from the front: what is left decides
module _ (test : ℕ → Bool) (l : List ℕ) (i : ℕ) where
  pub all_more : i < length l → test (get_or l i 0) ≡ true → all test (drop i l) ≡ all test (drop (i + 1) l)
  unfolding all
  all_more h e = rw (drop-cons l i 0 h, e, add-one)

  pub all-stop : i < length l → test (get_or l i 0) ≡ false → all test (drop i l) ≡ false
  unfolding all
  all-stop h e = rw (drop-cons l i 0 h, e)

  pub all_end : length l ≤ i → all test (drop i l) ≡ true
  unfolding all
  all_end h = rw (drop_of_length-le l h)

-- what holds of all holds of each
pub all-at : (test : ℕ → Bool) (l : List ℕ) (i : ℕ) → all test l ≡ true → i < length l → test (get_or l i 0) ≡ true
unfolding all
all-at test [] i a h = absurd (omega arith)
all-at test (x ∷ l) zero a h = ((and-eq-true_iff (test x) (all test l)).0 a).0
all-at test (x ∷ l) (suc i) a h = all-at test l i ((and-eq-true_iff (test x) (all test l)).0 a).1 (omega arith)
