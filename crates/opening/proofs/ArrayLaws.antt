-- An array that calls made, one for each place or for each element of an array, where the calls leave the closure as it is.
use Rattle.std.specs.Prelude.{◌≡◌, List, ℕ, ◌+◌, ◌≤◌, ◌<◌, get_or}
use Rattle.std.specs.Array.{IsFromFnResultFrom, IsFromFnResult, MapsFrom, IsMapOf}
use Rattle.std.proofs.Common.{zero, suc, sym, ap, ◌∙◌, subst, arith}
use Rattle.std.proofs.Math.Decide.{dec_lt}
use denote.Param.Members.{Mut, Called}
use Rattle.lists.specs.Tabulate.{tab, tab-is}

-- what holds at a place, and at the places behind it
here_or_later : (P : ℕ → Type 0) (i k : ℕ) → P i → (i < k → P k) → i ≤ k → P k
here_or_later P i k here later h = go (dec_lt i k)
  where
    go : Dec (i < k) → P k
    go (yes p) = later p
    go (no p) = let e : i ≡ k = omega arith in subst P e here

module _ {F B : Type 0} (g : Mut F (ℕ × Unit {0}) B) (f : F) (v : ℕ → B)
    (gives : (i : ℕ) (y : B) (f' : F) → Called g f (i, tt) y f' → (y ≡ v i) × (f' ≡ f)) where
  made_from : (ys : List B) (d : B) (i n : ℕ) → IsFromFnResultFrom g f ys i n → (k : ℕ) → i ≤ k → k < i + n → v k ≡ get_or ys k d
  made_from ys d i zero w k h q = absurd (omega arith)
  made_from ys d i (suc n) w k h q =
      let said = gives i w.1 w.0 w.3 in
      here_or_later (λ j. v j ≡ get_or ys j d) i k (sym (w.2.1 d ∙ said.0))
      (λ p. made_from ys d (i + 1) n (subst (λ s. IsFromFnResultFrom g s ys (i + 1) n) said.1 w.4) k (omega arith) (omega arith))
      h

  pub made-all : (d : B) (n : ℕ) (ys : List B) → IsFromFnResult g f ys n → ys ≡ tab v n
  made-all d n ys k = sym (tab-is d v n ys k.long (λ i q. made_from ys d 0 n k.each i (omega arith) (omega arith)))

module _ {F A B : Type 0} (g : Mut F (A × Unit {0}) B) (f : F) (v : A → B)
    (gives : (x : A) (y : B) (f' : F) → Called g f (x, tt) y f' → (y ≡ v x) × (f' ≡ f)) where
  mapped_from : (xs : List A) (ys : List B) (d : A) (e : B) (i n : ℕ) → MapsFrom g f xs ys i n
      → (k : ℕ) → i ≤ k → k < i + n → v (get_or xs k d) ≡ get_or ys k e
  mapped_from xs ys d e i zero w k h q = absurd (omega arith)
  mapped_from xs ys d e i (suc n) w k h q =
      let said = gives w.1 w.2 w.0 w.5 in
      here_or_later (λ j. v (get_or xs j d) ≡ get_or ys j e) i k (ap v (w.3.1 d) ∙ sym (w.4.1 e ∙ said.0))
      (λ p. mapped_from xs ys d e (i + 1) n (subst (λ s. MapsFrom g s xs ys (i + 1) n) said.1 w.6) k (omega arith) (omega arith))
      h

  pub mapped-all : (d : A) (e : B) (n : ℕ) (xs : List A) (ys : List B) → IsMapOf g f xs ys n → ys ≡ tab (λ k. v (get_or xs k d)) n
  mapped-all d e n xs ys k =
      sym (tab-is e (λ j. v (get_or xs j d)) n ys k.long (λ i q. mapped_from xs ys d e 0 n k.each i (omega arith) (omega arith)))
