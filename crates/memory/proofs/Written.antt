-- What a loop keeps that writes cells v over a list s, from place b on: the first i of them are written, and nothing else is changed.
use mathlib.Core.Path.{◌≡◌, refl, sym, ap, ◌∙◌}
use mathlib.Core.List.{List, [], ◌∷◌, ◌++◌}
use Prim.Native.Nat.{ℕ, ◌+◌, ◌≤◌, ◌<◌}
use native.Mathlib.Nat.{zero-add, suc-add}
use native.Mathlib.Omega.{arith}
use lib.ListN.{length, get_or, set, take, drop, length-set, length-drop, take-append-drop}
use lib.Seq.{length-take-le, take_all}
use Rattle.lists.specs.Parts.{with_part, onto, onto-step}

pub record Written {X : Type 0} (b : ℕ) (v s l : List X) (i : ℕ) : Type 0 where
  pub upto : i ≤ length v
  pub is : l ≡ with_part b i s (take i v)
  pub long : length l ≡ length s

-- a store past the first of two lists
set_past : {X : Type 0} (xs ys : List X) (i : ℕ) (x : X) → set (xs ++ ys) (length xs + i) x ≡ xs ++ set ys i x
set_past [] ys i x = rw (zero-add i)
set_past (y ∷ xs) ys i x = rw (suc-add (length xs) i) (ap (λ l. y ∷ l) (set_past xs ys i x))

module _ {X : Type 0} (b : ℕ) (v s : List X) (h : b + length v ≤ length s) where
  pub written_none : Written b v s s 0
  written_none = record { upto = omega arith; is = sym (take-append-drop b s); long = refl }

  module _ (l : List X) (i : ℕ) (k : Written b v s l i) where
    pub written-more : (d : X) → i < length v → Written b v s (set l (b + i) (get_or v i d)) (i + 1)
    written-more d q =
        let e : length (take b s) ≡ b = length-take-le b s (omega arith) in
        let r : i < length (drop b s) = rw (length-drop b s) (omega arith) in
        record {
          upto = omega arith;
          is = rw k.is (rw e at (set_past (take b s) (onto v (drop b s) i) i (get_or v i d)) ∙ rw (onto-step d v (drop b s) i q r));
          long = simp length-set k.long;
        }

    pub written_all : length v ≤ i → l ≡ with_part b (length v) s v
    written_all q = let e : i ≡ length v = omega arith in k.is ∙ rw (e, take_all (length v) v (omega arith))
