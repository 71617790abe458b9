-- What holds of a choice, of a search's outcome and of each element of a list after a store, from what holds of the parts.
use Rattle.std.specs.Prelude.{◌≡◌, refl, Bool, true, false, cond, List, [], ◌∷◌, ◌++◌, map, ℕ, zero, suc, get_or, set, replicate, Option, Some, None}
use Rattle.lists.specs.Seek.{on_found}

pub cond-keeps : {A : Type 0} (P : A → Type 0) (t : Bool) (x y : A) → (t ≡ true → P x) → (t ≡ false → P y) → P (cond t x y)
cond-keeps P true x y p q = p refl
cond-keeps P false x y p q = q refl

pub found-keeps : {A : Type 0} (P : A → Type 0) (f : Option ℕ) (none : A) (some : ℕ → A) → P none → ((i : ℕ) → f ≡ Some i → P (some i)) → P (on_found f none some)
found-keeps P (Some i) none some p q = q i refl
found-keeps P None none some p q = p

pub set_keeps : {X : Type 0} (P : X → Type 0) (d : X) (l : List X) (i n : ℕ) (x : X) → P x → P (get_or l n d) → P (get_or (set l i x) n d)
set_keeps P d [] i n x p q = q
set_keeps P d (y ∷ l) zero zero x p q = p
set_keeps P d (y ∷ l) zero (suc n) x p q = q
set_keeps P d (y ∷ l) (suc i) zero x p q = q
set_keeps P d (y ∷ l) (suc i) (suc n) x p q = set_keeps P d l i n x p q

pub replicate-keeps : {X : Type 0} (P : X → Type 0) (d : X) (n : ℕ) (x : X) (i : ℕ) → P x → P d → P (get_or (replicate n x) i d)
replicate-keeps P d zero x i p q = q
replicate-keeps P d (suc n) x zero p q = p
replicate-keeps P d (suc n) x (suc i) p q = replicate-keeps P d n x i p q

pub more-keeps : {X : Type 0} (P : X → Type 0) (d : X) (l : List X) (x : X) (n : ℕ) → P d → P x → P (get_or l n d) → P (get_or (l ++ (x ∷ [])) n d)
more-keeps P d [] x zero z p q = p
more-keeps P d [] x (suc n) z p q = z
more-keeps P d (y ∷ l) x zero z p q = q
more-keeps P d (y ∷ l) x (suc n) z p q = more-keeps P d l x n z p q

pub first-keeps : {X : Type 0} (P : X → Type 0) (d x : X) (l : List X) → P x → ((n : ℕ) → P (get_or l n d)) → (n : ℕ) → P (get_or (x ∷ l) n d)
first-keeps P d x l p h zero = p
first-keeps P d x l p h (suc n) = h n

pub map-keeps : {X Y : Type 0} (P : Y → Type 0) (d : Y) (f : X → Y) (l : List X) → P d → ((x : X) → P (f x)) → (n : ℕ) → P (get_or (map f l) n d)
map-keeps P d f [] z h n = z
map-keeps P d f (x ∷ l) z h n = first-keeps P d (f x) (map f l) (h x) (map-keeps P d f l z h) n
