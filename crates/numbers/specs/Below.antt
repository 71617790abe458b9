-- Lists whose elements are all below a bound: bytes below 256, numbers of 64 bits below 2 ^ 64.
use Rattle.std.specs.Prelude.{List, [], ◌∷◌, ◌++◌, ℕ, zero, suc, ◌+◌, ◌^◌, ◌<◌, get_or, drop}
use Rattle.std.proofs.Common.{arith, get_or-drop}

abbrev pub Below : ℕ → List ℕ → Type 0
Below bound l = (i : ℕ) → get_or l i 0 < bound

abbrev pub Small : List ℕ → Type 0
Small s = Below 256 s

abbrev pub Fit : List ℕ → Type 0
Fit l = Below (2 ^ 64) l

module _ (bound : ℕ) where
  pub below-cons : (x : ℕ) (l : List ℕ) → x < bound → Below bound l → Below bound (x ∷ l)
  below-cons x l p q zero = p
  below-cons x l p q (suc i) = q i

  pub below-append : (a b : List ℕ) → Below bound a → Below bound b → Below bound (a ++ b)
  below-append [] b p q = q
  below-append (x ∷ a) b p q = below-cons x (a ++ b) (p 0) (below-append a b (λ i. p (suc i)) q)

  pub below_left : (a b : List ℕ) → Below bound (a ++ b) → Below bound a
  below_left [] b p = λ i. omega (arith, p 0)
  below_left (x ∷ a) b p = below-cons x a (p 0) (below_left a b λ i. p (suc i))

  pub below_right : (a b : List ℕ) → Below bound (a ++ b) → Below bound b
  below_right [] b p = p
  below_right (x ∷ a) b p = below_right a b λ i. p (suc i)

  pub below-drop : (l : List ℕ) (n : ℕ) → Below bound l → Below bound (drop n l)
  below-drop l n h i = rw (get_or-drop n l i 0) (h (n + i))
