-- Two lists taken together, place by place: what a function makes of each pair.
use Rattle.std.specs.Prelude.{◌≡◌, length, get_or, set, drop}
use Rattle.std.proofs.Math.Path.{refl, sym, ap}
use Rattle.std.proofs.Common.{◌∙◌, not-suc-le-zero, le_of_suc-le-suc}
use mathlib.Core.List.{List, [], ◌∷◌, map}
use Prim.Native.Nat.{ℕ, zero, suc, ◌<◌}
use Rattle.std.proofs.Math.Nat.{suc_inj}
use native.Mathlib.Omega.{arith}

unfoldable pub zipped : {X Y Z : Type 0} → (X → Y → Z) → List X → List Y → List Z
zipped f [] ys = []
zipped f (x ∷ xs) [] = []
zipped f (x ∷ xs) (y ∷ ys) = f x y ∷ zipped f xs ys

module _ {X Y Z : Type 0} (f : X → Y → Z) where
  -- lists of one length
  as_long : (xs : List X) (ys : List Y) → length xs ≡ length ys → length (zipped f xs ys) ≡ length xs
  unfolding zipped
  as_long [] ys p = refl
  as_long (x ∷ xs) [] p = sym p
  as_long (x ∷ xs) (y ∷ ys) p = ap suc (as_long xs ys (suc_inj p))

  pub zipped-length : {n : ℕ} (xs : List X) (ys : List Y) → length xs ≡ n → length ys ≡ n → length (zipped f xs ys) ≡ n
  zipped-length xs ys p q = as_long xs ys (p ∙ sym q) ∙ p

  -- a place in both lists
  pub zipped-inside : (xs : List X) (ys : List Y) (i : ℕ) → i < length xs → i < length ys → i < length (zipped f xs ys)
  unfolding zipped
  zipped-inside [] ys i h k = h
  zipped-inside (x ∷ xs) [] i h k = k
  zipped-inside (x ∷ xs) (y ∷ ys) zero h k = omega arith
  zipped-inside (x ∷ xs) (y ∷ ys) (suc i) h k =
      omega (arith, zipped-inside xs ys i (le_of_suc-le-suc h) (le_of_suc-le-suc k))

  -- at a place
  pub zipped-at : (z : Z) (x₀ : X) (y₀ : Y) (xs : List X) (ys : List Y) (i : ℕ) → i < length xs → i < length ys
      → get_or (zipped f xs ys) i z ≡ f (get_or xs i x₀) (get_or ys i y₀)
  unfolding zipped
  zipped-at z x₀ y₀ [] ys i h k = absurd (not-suc-le-zero h)
  zipped-at z x₀ y₀ (x ∷ xs) [] i h k = absurd (not-suc-le-zero k)
  zipped-at z x₀ y₀ (x ∷ xs) (y ∷ ys) zero h k = refl
  zipped-at z x₀ y₀ (x ∷ xs) (y ∷ ys) (suc i) h k =
      zipped-at z x₀ y₀ xs ys i (le_of_suc-le-suc h) (le_of_suc-le-suc k)

  -- from a place on
  pub zipped-drop : (n : ℕ) (xs : List X) (ys : List Y) → drop n (zipped f xs ys) ≡ zipped f (drop n xs) (drop n ys)
  unfolding zipped
  zipped-drop zero xs ys = refl
  zipped-drop (suc n) [] ys = refl
  zipped-drop (suc n) (x ∷ xs) [] = none (drop n xs)
    where
      none : (zs : List X) → [] ≡ zipped f zs []
      none [] = refl
      none (z ∷ zs) = refl
  zipped-drop (suc n) (x ∷ xs) (y ∷ ys) = zipped-drop n xs ys

  -- a store in the first list
  pub zipped-set : (y₀ : Y) (xs : List X) (ys : List Y) (i : ℕ) (x : X) → i < length ys
      → zipped f (set xs i x) ys ≡ set (zipped f xs ys) i (f x (get_or ys i y₀))
  unfolding zipped
  zipped-set y₀ [] ys i x k = refl
  zipped-set y₀ (w ∷ xs) [] i x k = absurd (not-suc-le-zero k)
  zipped-set y₀ (w ∷ xs) (y ∷ ys) zero x k = refl
  zipped-set y₀ (w ∷ xs) (y ∷ ys) (suc i) x k = ap (λ l. f w y ∷ l) (zipped-set y₀ xs ys i x (le_of_suc-le-suc k))

  -- what holds of each pair holds at each place, past the end too
  pub zipped-keeps : (P : Z → Type 0) (z : Z) (x₀ : X) (y₀ : Y) (xs : List X) (ys : List Y) → P z
      → ((i : ℕ) → P (f (get_or xs i x₀) (get_or ys i y₀))) → (i : ℕ) → P (get_or (zipped f xs ys) i z)
  unfolding zipped
  zipped-keeps P z x₀ y₀ [] ys p h i = p
  zipped-keeps P z x₀ y₀ (x ∷ xs) [] p h i = p
  zipped-keeps P z x₀ y₀ (x ∷ xs) (y ∷ ys) p h zero = h zero
  zipped-keeps P z x₀ y₀ (x ∷ xs) (y ∷ ys) p h (suc i) = zipped-keeps P z x₀ y₀ xs ys p (λ j. h (suc j)) i

-- two rows made of one list
pub zipped_map : {W X Y Z : Type 0} (f : X → Y → Z) (g : W → X) (h : W → Y) (ws : List W) → zipped f (map g ws) (map h ws) ≡ map (λ w. f (g w) (h w)) ws
unfolding zipped
zipped_map f g h [] = refl
zipped_map f g h (w ∷ ws) = ap (λ l. f (g w) (h w) ∷ l) (zipped_map f g h ws)
