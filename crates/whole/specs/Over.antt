-- Sums over a list of what a function gives for each element.
use Rattle.std.specs.Prelude.{◌≡◌, ℤ, pos, neg_ℤ, ◌-ℤ◌, ◌*ℤ◌}
use Rattle.std.proofs.Math.Path.{refl, sym, ap, ap₂}
use Rattle.std.proofs.Common.{◌∙◌}
use mathlib.Core.List.{List, [], ◌∷◌, ◌++◌, map}
use Rattle.std.proofs.Math.IntN.{◌+ℤ◌, +ℤ_idl, +ℤ_idr, +ℤ_assoc, *ℤ-zero, neg_ℤ-+ℤ}
use Rattle.whole.specs.Ring.{mul-addℤ}
use Rattle.whole.specs.Parts.{parts₄, ring, zarith}
use Rattle.whole.specs.Sums.{sum_z}

abbrev pub sum_over : {A : Type 0} → (A → ℤ) → List A → ℤ
sum_over f xs = sum_z (map f xs)

-- two sums added, each to each
pub add-crossed : (p q r s : ℤ) → (p +ℤ q) +ℤ (r +ℤ s) ≡ (p +ℤ r) +ℤ (q +ℤ s)
add-crossed p q r s = parts₄ p q r s (λ a b c d. simp (a.is, b.is, c.is, d.is, ring) (omega zarith))

module _ {A : Type 0} where
  pub over-append : (f : A → ℤ) (xs ys : List A) → sum_over f (xs ++ ys) ≡ sum_over f xs +ℤ sum_over f ys
  unfolding sum_z
  over-append f [] ys = sym (+ℤ_idl (sum_over f ys))
  over-append f (a ∷ xs) ys = ap (λ t. f a +ℤ t) (over-append f xs ys) ∙ sym (+ℤ_assoc (f a) (sum_over f xs) (sum_over f ys))

  pub over_last : (f : A → ℤ) (xs : List A) (a : A) → sum_over f (xs ++ (a ∷ [])) ≡ sum_over f xs +ℤ f a
  unfolding sum_z
  over_last f xs a = over-append f xs (a ∷ []) ∙ ap (λ t. sum_over f xs +ℤ t) (+ℤ_idr (f a))

  pub over-ext : (f g : A → ℤ) (xs : List A) → ((a : A) → f a ≡ g a) → sum_over f xs ≡ sum_over g xs
  unfolding sum_z
  over-ext f g [] h = refl
  over-ext f g (a ∷ xs) h = ap₂ ◌+ℤ◌ (h a) (over-ext f g xs h)

  pub over_add : (f g : A → ℤ) (xs : List A) → sum_over (λ a. f a +ℤ g a) xs ≡ sum_over f xs +ℤ sum_over g xs
  unfolding sum_z
  over_add f g [] = refl
  over_add f g (a ∷ xs) = ap (λ t. (f a +ℤ g a) +ℤ t) (over_add f g xs) ∙ add-crossed (f a) (g a) (sum_over f xs) (sum_over g xs)

  pub over-sub : (f g : A → ℤ) (xs : List A) → sum_over (λ a. f a -ℤ g a) xs ≡ sum_over f xs -ℤ sum_over g xs
  unfolding sum_z
  over-sub f g [] = refl
  over-sub f g (a ∷ xs) =
      ap (λ t. (f a -ℤ g a) +ℤ t) (over-sub f g xs)
      ∙ add-crossed (f a) (neg_ℤ (g a)) (sum_over f xs) (neg_ℤ (sum_over g xs))
      ∙ ap (λ t. f a +ℤ sum_over f xs +ℤ t) (sym (neg_ℤ-+ℤ (g a) (sum_over g xs)))

  pub over-scale : (x : ℤ) (f : A → ℤ) (xs : List A) → sum_over (λ a. x *ℤ f a) xs ≡ x *ℤ sum_over f xs
  unfolding sum_z
  over-scale x f [] = sym (*ℤ-zero x)
  over-scale x f (a ∷ xs) = ap (λ t. x *ℤ f a +ℤ t) (over-scale x f xs) ∙ sym (mul-addℤ x (f a) (sum_over f xs))

  pub over_none : (f : A → ℤ) (xs : List A) → ((a : A) → f a ≡ pos 0) → sum_over f xs ≡ pos 0
  unfolding sum_z
  over_none f [] h = refl
  over_none f (a ∷ xs) h = ap₂ ◌+ℤ◌ (h a) (over_none f xs h)
