-- The first n rows of a table, changed one by one; the others untouched.
use Rattle.std.specs.Prelude.{◌≡◌, refl, List, [], ◌∷◌, ◌++◌, map, ℕ, zero, suc, ◌+◌, ◌-◌, ◌<◌, length, take, drop, get_or, set, replicate}
use Rattle.std.proofs.Common.{sym, ap, ◌∙◌, add-one, arith, length-append, length-take, length-drop, drop-cons, take-suc, length-take-le}
use Rattle.std.proofs.lemmas.List.{length-map, set_at, get_or_at}
use Rattle.std.proofs.Math.Seq.{append_snoc, take-append_seam, drop-append_seam}
use Rattle.lists.specs.Padded.{padded}

abbrev pub first_rows : {X : Type 0} → (X → X) → ℕ → List X → List X
first_rows f n l = map f (take n l) ++ drop n l

pub map-append : {X Y : Type 0} (f : X → Y) (a b : List X) → map f (a ++ b) ≡ map f a ++ map f b
map-append f [] b = refl
map-append f (x ∷ a) b = ap (λ l. f x ∷ l) (map-append f a b)

pub drop-map : {X Y : Type 0} (f : X → Y) (n : ℕ) (xs : List X) → drop n (map f xs) ≡ map f (drop n xs)
drop-map f zero xs = refl
drop-map f (suc n) [] = refl
drop-map f (suc n) (x ∷ xs) = drop-map f n xs

-- an element of a mapped list, whatever stands past its end
pub get_d-map-below : {X Y : Type 0} (f : X → Y) (l : List X) (i : ℕ) (d : X) (e : Y) → i < length l → get_or (map f l) i e ≡ f (get_or l i d)
get_d-map-below f [] i d e h = absurd (omega arith)
get_d-map-below f (x ∷ l) zero d e h = refl
get_d-map-below f (x ∷ l) (suc i) d e h = get_d-map-below f l i d e (omega arith)

pub map-set : {X Y : Type 0} (f : X → Y) (xs : List X) (i : ℕ) (x : X) → map f (set xs i x) ≡ set (map f xs) i (f x)
map-set f [] i x = refl
map-set f (y ∷ xs) zero x = refl
map-set f (y ∷ xs) (suc i) x = ap (λ l. f y ∷ l) (map-set f xs i x)

module _ {X : Type 0} (f : X → X) (l : List X) (i : ℕ) (d : X) (h : i < length l) where
  mapped-long : length (map f (take i l)) ≡ i
  mapped-long = length-map (take i l) f ∙ length-take-le i l (omega arith)

  -- the next row is as it was
  pub first_rows-at : get_or (first_rows f i l) i d ≡ get_or l i d
  first_rows-at = rw (drop-cons l i d h) (get_or_at (map f (take i l)) (get_or l i d) (drop (suc i) l) d i mapped-long)

  -- and is changed
  pub first_rows-step : set (first_rows f i l) i (f (get_or l i d)) ≡ first_rows f (i + 1) l
  first_rows-step =
      rw (drop-cons l i d h, set_at (map f (take i l)) (get_or l i d) (drop (suc i) l) (f (get_or l i d)) i mapped-long, add-one, take-suc l i d h, map-append f (take i l) (get_or l i d ∷ []))
      (sym (append_snoc (map f (take i l)) (f (get_or l i d)) (drop (suc i) l)))

pub first_rows-length : {X : Type 0} (f : X → X) (l : List X) (i : ℕ) → length (first_rows f i l) ≡ length l
first_rows-length f l i = rw (length-append (map f (take i l)) (drop i l), length-map (take i l) f, length-take i l, length-drop i l) (omega arith)

-- all rows but the filling
pub first_rows-padded : {X : Type 0} (f : X → X) (n : ℕ) (d : X) (l : List X) → first_rows f (length l) (padded n d l) ≡ padded n d (map f l)
first_rows-padded f n d l =
    rw (take-append_seam l (replicate (n - length l) d), drop-append_seam l (replicate (n - length l) d), length-map l f)

-- what holds of each row and is kept by the change
pub first_rows-keeps : {X : Type 0} (P : X → Type 0) (d : X) (f : X → X) (n : ℕ) (l : List X) → ((x : X) → P x → P (f x)) → ((k : ℕ) → P (get_or l k d))
    → (k : ℕ) → P (get_or (first_rows f n l) k d)
first_rows-keeps P d f zero l step h k = h k
first_rows-keeps P d f (suc n) [] step h k = h k
first_rows-keeps P d f (suc n) (x ∷ l) step h zero = step x (h 0)
first_rows-keeps P d f (suc n) (x ∷ l) step h (suc k) = first_rows-keeps P d f n l step (λ j. h (suc j)) k
