-- Bytes put over a room's own from a place on, the others untouched.
use Rattle.std.specs.Prelude.{◌≡◌, List, [], ◌∷◌, ◌++◌, ℕ, suc, ◌+◌, ◌≤◌, ◌<◌, length, take, drop, set}
use Rattle.std.proofs.Common.{sym, append_assoc, add-one, arith, length-append, length-take, length-drop, take-append-drop, take-suc-set, drop-set-lt, take_at, length-take-le, drop-drop}
use Rattle.std.proofs.lemmas.List.{set_split}
use Rattle.std.proofs.Math.Seq.{append_snoc, drop-append-add}

abbrev pub put : List ℕ → ℕ → List ℕ → List ℕ
put l i xs = take i l ++ (xs ++ drop (i + length xs) l)

pub put-none : (l : List ℕ) (i : ℕ) → put l i [] ≡ l
put-none l i = let e : i + 0 ≡ i = omega arith in rw e (take-append-drop i l)

pub put-length : (l : List ℕ) (i : ℕ) (xs : List ℕ) → i + length xs ≤ length l → length (put l i xs) ≡ length l
put-length l i xs h = simp (length-append, length-take, length-drop) (omega arith)

pub put_one : (l : List ℕ) (i x : ℕ) → i < length l → set l i x ≡ put l i (x ∷ [])
put_one l i x h = rw (set_split l i x h, add-one)

pub put-cons : (l : List ℕ) (i x : ℕ) (xs : List ℕ) → i < length l → put l i (x ∷ xs) ≡ put (set l i x) (i + 1) xs
put-cons l i x xs h =
    let e : i + suc (length xs) ≡ i + 1 + length xs = omega arith in
    rw (e, drop-set-lt (i + 1 + length xs) l i x (omega arith), add-one i, take-suc-set l i x h, append_snoc (take i l) x (xs ++ drop (suc i + length xs) l))

-- one after the other
pub put-append : (l : List ℕ) (i : ℕ) (xs ys : List ℕ) → i + length xs ≤ length l → put (put l i xs) (i + length xs) ys ≡ put l i (xs ++ ys)
put-append l i xs ys h =
    let e : length (take i l ++ xs) ≡ i + length xs = rw (length-append (take i l) xs, length-take-le i l (omega arith)) in
    let a : put l i xs ≡ (take i l ++ xs) ++ drop (i + length xs) l = sym (append_assoc (take i l) xs (drop (i + length xs) l)) in
    let b : i + length xs + length ys ≡ length (take i l ++ xs) + length ys = omega arith in
    let d : i + length xs + length ys ≡ i + (length xs + length ys) = omega arith in
    rw (a, take_at (take i l ++ xs) (drop (i + length xs) l) (i + length xs) e, b, drop-append-add (take i l ++ xs) (drop (i + length xs) l) (length ys), drop-drop (length ys) (i + length xs) l, d, length-append xs ys, append_assoc (take i l) xs (ys ++ drop (i + (length xs + length ys)) l), append_assoc xs ys (drop (i + (length xs + length ys)) l))
