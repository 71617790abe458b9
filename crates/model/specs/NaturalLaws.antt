-- Sums of natural numbers over a list, and of the sizes of whole numbers.
use Rattle.std.specs.Prelude.{◌≡◌, false, cond, ℕ, ◌+◌, ◌*◌, ◌≤◌, eqb, ℤ, nat_abs, length}
use Rattle.std.proofs.Math.Path.{refl}
use Rattle.std.proofs.Common.{◌∙◌, subst, eqb-true}
use mathlib.Core.List.{List, [], ◌∷◌, ◌++◌, map}
use native.Mathlib.Omega.{arith}
use Rattle.lists.specs.Has.{has, Distinct}
use Rattle.lists.specs.HasLaws.{by_test, when_true, when_false, neither, eqb-flip}
use Rattle.whole.specs.Sizes.{sizes}
use Rattle.tallies.specs.Means.{total}

abbrev pub total_over : {A : Type 0} → (A → ℕ) → List A → ℕ
total_over f xs = total (map f xs)

module _ {A : Type 0} where
  pub total-more : (f g more : A → ℕ) (xs : List A) → ((a : A) → f a ≤ g a + more a)
      → total_over f xs ≤ total_over g xs + total_over more xs
  unfolding total
  total-more f g more [] h = omega arith
  total-more f g more (a ∷ xs) h = omega (arith, h a, total-more f g more xs h)

  pub total-each : (B : ℕ) (f : A → ℕ) (xs : List A) → ((a : A) → f a ≤ B) → total_over f xs ≤ length xs * B
  unfolding total
  total-each B f [] h = omega arith
  total-each B f (a ∷ xs) h = omega (arith, h a, total-each B f xs h)

  pub total-last : (f : A → ℕ) (xs : List A) (a : A) → total_over f (xs ++ (a ∷ [])) ≡ total_over f xs + f a
  unfolding total
  total-last f [] a = omega arith
  total-last f (b ∷ xs) a = omega (arith, total-last f xs a)

  pub total-spread : (k m : ℕ) (f : A → ℕ) (xs : List A) → total_over (λ a. k * (f a + m)) xs ≡ k * (total_over f xs + length xs * m)
  unfolding total
  total-spread k m f [] = omega arith
  total-spread k m f (a ∷ xs) = omega (arith, total-spread k m f xs)

  pub total-sizes : (f : A → ℤ) (xs : List A) → sizes (map f xs) ≡ total_over (λ a. nat_abs (f a)) xs
  unfolding total sizes
  total-sizes f [] = refl
  total-sizes f (a ∷ xs) = omega (arith, total-sizes f xs)

pub total-sizes-of : {A B : Type 0} (f : B → ℤ) (g : A → B) (xs : List A) → sizes (map f (map g xs)) ≡ total_over (λ a. nat_abs (f (g a))) xs
unfolding total sizes
total-sizes-of f g [] = refl
total-sizes-of f g (a ∷ xs) = omega (arith, total-sizes-of f g xs)

-- ---- x at one key and 0 elsewhere, over a list with no number twice
abbrev pub only_at : ℕ → ℕ → ℕ → ℕ
only_at k x n = cond (eqb n k) x 0

total-away : (k x : ℕ) (ns : List ℕ) → has k ns ≡ false → total_over (only_at k x) ns ≡ 0
unfolding total has
total-away k x [] h = refl
total-away k x (n ∷ ns) h =
    let p = neither (eqb k n) (has k ns) h in
    omega (arith, when_false x 0 (eqb-flip n k ∙ p.0), total-away k x ns p.1)

pub total-only : (k x : ℕ) (ns : List ℕ) → Distinct ns → total_over (only_at k x) ns ≤ x
unfolding total has
total-only k x [] d = omega arith
total-only k x (n ∷ ns) d = by_test (eqb n k)
    (λ e. omega (arith, when_true x 0 e, total-away k x ns (subst (λ t. has t ns ≡ false) (eqb-true n k e) d.0)))
    (λ e. omega (arith, when_false x 0 e, total-only k x ns d.1))
