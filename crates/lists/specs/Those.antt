-- Those elements of a list that pass a test, in their order.
use Rattle.std.specs.Prelude.{◌≡◌, refl, Bool, true, false, cond, List, [], ◌∷◌, ◌++◌, map, suc, ◌≤◌, length}
use Rattle.std.proofs.Common.{◌∙◌, ap, arith}
use Rattle.lists.specs.Rows.{map-append}

unfoldable pub those : {X : Type 0} → (X → Bool) → List X → List X
those p [] = []
those p (x ∷ xs) = cond (p x) (x ∷ those p xs) (those p xs)

-- no more than there are
pub those-fewer : {X : Type 0} (p : X → Bool) (xs : List X) → length (those p xs) ≤ length xs
unfolding those
those-fewer p [] = omega arith
those-fewer p (x ∷ xs) = go (p x) (those-fewer p xs)
  where
    go : (t : Bool) → length (those p xs) ≤ length xs → length (cond t (x ∷ those p xs) (those p xs)) ≤ suc (length xs)
    go true h = omega arith
    go false h = omega arith

-- one more at the end
pub those-more : {X : Type 0} (p : X → Bool) (xs : List X) (x : X)
    → those p (xs ++ (x ∷ [])) ≡ cond (p x) (those p xs ++ (x ∷ [])) (those p xs)
unfolding those
those-more p [] x = refl
those-more p (y ∷ xs) x = rw (those-more p xs x) (go (p y) (p x))
  where
    go : (s t : Bool) → let ys = those p xs in
        cond s (y ∷ cond t (ys ++ (x ∷ [])) ys) (cond t (ys ++ (x ∷ [])) ys)
        ≡ cond t (cond s (y ∷ ys) ys ++ (x ∷ [])) (cond s (y ∷ ys) ys)
    go true true = refl
    go true false = refl
    go false true = refl
    go false false = refl

-- and what is made of them
pub those-made : {X Y : Type 0} (p : X → Bool) (f : X → Y) (xs : List X) (x : X)
    → map f (those p (xs ++ (x ∷ []))) ≡ cond (p x) (map f (those p xs) ++ (f x ∷ [])) (map f (those p xs))
those-made p f xs x = ap (map f) (those-more p xs x) ∙ go (p x)
  where
    go : (t : Bool) → map f (cond t (those p xs ++ (x ∷ [])) (those p xs)) ≡ cond t (map f (those p xs) ++ (f x ∷ [])) (map f (those p xs))
    go true = map-append f (those p xs) (x ∷ [])
    go false = refl

-- two lists
pub those-append : {X : Type 0} (p : X → Bool) (xs ys : List X) → those p (xs ++ ys) ≡ those p xs ++ those p ys
unfolding those
those-append p [] ys = refl
those-append p (x ∷ xs) ys = rw (those-append p xs ys) (go (p x))
  where
    go : (t : Bool) → cond t (x ∷ (those p xs ++ those p ys)) (those p xs ++ those p ys)
        ≡ cond t (x ∷ those p xs) (those p xs) ++ those p ys
    go true = refl
    go false = refl

-- a change that the test does not look at
pub those-map : {X Y : Type 0} (p : X → Bool) (q : Y → Bool) (f : X → Y) (xs : List X) → ((x : X) → q (f x) ≡ p x)
    → those q (map f xs) ≡ map f (those p xs)
unfolding those
those-map p q f [] same = refl
those-map p q f (x ∷ xs) same = rw (same x, those-map p q f xs same) (go (p x))
  where
    go : (s : Bool) → cond s (f x ∷ map f (those p xs)) (map f (those p xs)) ≡ map f (cond s (x ∷ those p xs) (those p xs))
    go true = refl
    go false = refl
