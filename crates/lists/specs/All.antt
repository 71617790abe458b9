-- What holds of each element of a list, and then of each element of its parts.
use Rattle.std.specs.Prelude.{Bool, cond, List, [], ◌∷◌, ◌++◌, map, ℕ, zero, suc, drop}
use Rattle.std.proofs.Math.Bool.{true, false}
use Rattle.lists.specs.Those.{those}

pub data All {X : Type 0} (P : X → Type 0) : List X → Type 0 where
  none_left : All P []
  and-more : {x : X} {xs : List X} → P x → All P xs → All P (x ∷ xs)

module _ {X : Type 0} {P : X → Type 0} where
  pub all-weaken : {Q : X → Type 0} {xs : List X} → ((x : X) → P x → Q x) → All P xs → All Q xs
  all-weaken f none_left = none_left
  all-weaken f (and-more {x} p a) = and-more (f x p) (all-weaken f a)

  pub all-those : (p : X → Bool) {xs : List X} → All P xs → All P (those p xs)
  unfolding those
  all-those p none_left = none_left
  all-those p (and-more {x} {xs} h a) = go (p x) (all-those p a)
    where
      go : (t : Bool) → All P (those p xs) → All P (cond t (x ∷ those p xs) (those p xs))
      go true b = and-more h b
      go false b = b

  pub all_drop : (n : ℕ) {xs : List X} → All P xs → All P (drop n xs)
  all_drop zero a = a
  all_drop (suc n) none_left = none_left
  all_drop (suc n) (and-more p a) = all_drop n a

  pub all_split : (xs : List X) {ys : List X} → All P (xs ++ ys) → All P xs × All P ys
  all_split [] a = (none_left, a)
  all_split (x ∷ xs) (and-more p a) = let b = all_split xs a in (and-more p b.0, b.1)

-- one more at the end
pub all-last : {X : Type 0} {P : X → Type 0} (xs : List X) {x : X} → All P xs → P x → All P (xs ++ (x ∷ []))
all-last [] a p = and-more p none_left
all-last (y ∷ xs) (and-more q a) p = and-more q (all-last xs a p)

pub all_map : {X Y : Type 0} {P : Y → Type 0} (f : X → Y) (xs : List X) → All P (map f xs) → All (λ x. P (f x)) xs
all_map f [] none_left = none_left
all_map f (x ∷ xs) (and-more p a) = and-more p (all_map f xs a)
