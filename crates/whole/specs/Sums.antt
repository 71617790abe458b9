-- The sum of a list of whole numbers, for loops that add up and for stores that change one element.
use Rattle.std.specs.Prelude.{◌≡◌, refl, List, [], ◌∷◌, ◌++◌, ℕ, zero, suc, ◌+◌, ◌*◌, ◌<◌, T, leb, length, take, get_or, set, ℤ, pos, ◌+ℤ◌, ◌-ℤ◌}
use Rattle.std.proofs.Common.{ap, sym, ◌∙◌, zero-le, add-one, not-suc-le-zero, le_of_suc-le-suc, arith, length-set, take-suc}
use Rattle.std.proofs.Math.IntN.{+ℤ_idl, +ℤ_idr, +ℤ_assoc}
use Rattle.whole.specs.Parts.{parts₃, parts₄, ring, zarith}
use Rattle.whole.specs.Within.{Within, Each, within-+, widen, wider}

unfoldable pub sum_z : List ℤ → ℤ
sum_z [] = pos 0
sum_z (x ∷ xs) = x +ℤ sum_z xs

pub sum-append : (xs ys : List ℤ) → sum_z (xs ++ ys) ≡ sum_z xs +ℤ sum_z ys
unfolding sum_z
sum-append [] ys = sym (+ℤ_idl (sum_z ys))
sum-append (x ∷ xs) ys =
    ap (λ t. x +ℤ t) (sum-append xs ys) ∙ sym (+ℤ_assoc x (sum_z xs) (sum_z ys))

pub sum-last : (xs : List ℤ) (x : ℤ) → sum_z (xs ++ (x ∷ [])) ≡ sum_z xs +ℤ x
unfolding sum_z
sum-last xs x = sum-append xs (x ∷ []) ∙ ap (λ t. sum_z xs +ℤ t) (+ℤ_idr x)

-- ---- the sum of the first i: where a loop starts, one turn, and its bound
pub sum-none : (xs : List ℤ) → sum_z (take 0 xs) ≡ pos 0
unfolding sum_z
sum-none xs = refl

pub sum_more : (xs : List ℤ) (i : ℕ) → i < length xs
    → sum_z (take (i + 1) xs) ≡ sum_z (take i xs) +ℤ get_or xs i (pos 0)
sum_more xs i h =
    ap (λ n. sum_z (take n xs)) (add-one i)
    ∙ ap sum_z (take-suc xs i (pos 0) h)
    ∙ sum-last (take i xs) (get_or xs i (pos 0))

pub sum-within : {B : ℕ} (xs : List ℤ) (i : ℕ) → Each B xs → Within (i * B) (sum_z (take i xs))
unfolding sum_z
sum-within xs zero E = record { size = zero-le }
sum-within [] (suc i) E = record { size = zero-le }
sum-within {B} (x ∷ xs) (suc i) E =
    widen (within-+ (E.at 0) (sum-within xs i (record { at = λ j. E.at (suc j) }))) (omega arith)

-- ---- stores
-- a store moves the sum by what it changes
pub sum-set : (xs : List ℤ) (i : ℕ) (v : ℤ) → i < length xs
    → sum_z (set xs i v) ≡ sum_z xs +ℤ (v -ℤ get_or xs i (pos 0))
unfolding sum_z
sum-set [] i v h = absurd (not-suc-le-zero h)
sum-set (x ∷ xs) zero v h = here x v (sum_z xs)
  where
    here : (x v s : ℤ) → v +ℤ s ≡ (x +ℤ s) +ℤ (v -ℤ x)
    here x v s = parts₃ x v s (λ a b c. simp (a.is, b.is, c.is, ring) (omega zarith))
sum-set (x ∷ xs) (suc i) v h =
    ap (λ t. x +ℤ t) (sum-set xs i v (le_of_suc-le-suc h))
    ∙ sym (+ℤ_assoc x (sum_z xs) (v -ℤ get_or xs i (pos 0)))

-- x taken from one place and given to another leaves the sum as it was
pub sum_moved : (xs : List ℤ) (i j : ℕ) (x : ℤ) → i < length xs → j < length xs
    → let ys = set xs i (get_or xs i (pos 0) -ℤ x) in sum_z (set ys j (get_or ys j (pos 0) +ℤ x)) ≡ sum_z xs
sum_moved xs i j x h k =
    let a = get_or xs i (pos 0) in
    let ys = set xs i (a -ℤ x) in
    let b = get_or ys j (pos 0) in
    sum-set ys j (b +ℤ x) (rw length-set k)
    ∙ ap (λ t. t +ℤ (b +ℤ x -ℤ b)) (sum-set xs i (a -ℤ x) h)
    ∙ cancel (sum_z xs) a b x
  where
    cancel : (s a b x : ℤ) → (s +ℤ (a -ℤ x -ℤ a)) +ℤ (b +ℤ x -ℤ b) ≡ s
    cancel s a b x =
        parts₄ s a b x (λ p q r t. simp (p.is, q.is, r.is, t.is, ring) (omega zarith))

-- ---- a bound on each element
pub each_set : {B : ℕ} {v : ℤ} (xs : List ℤ) (i : ℕ) → Each B xs → Within B v → Each B (set xs i v)
each_set {B} {v} xs i E h = record { at = go xs i E.at }
  where
    go : (xs : List ℤ) (i : ℕ) → ((j : ℕ) → Within B (get_or xs j (pos 0)))
        → (j : ℕ) → Within B (get_or (set xs i v) j (pos 0))
    go [] i E j = E j
    go (x ∷ xs) zero E zero = h
    go (x ∷ xs) zero E (suc j) = E (suc j)
    go (x ∷ xs) (suc i) E zero = E zero
    go (x ∷ xs) (suc i) E (suc j) = go xs i (λ k. E (suc k)) j

pub each-wider : {A B : ℕ} {xs : List ℤ} → Each A xs → T (leb A B) → Each B xs
each-wider E t = record { at = λ i. wider (E.at i) t }
