-- An array that a call for each place made, where the calls leave the closure as it is.
use Rattle.std.specs.Prelude.{◌≡◌, List, ℕ, ◌+◌, ◌≤◌, ◌<◌, get_or}
use Rattle.std.specs.Array.{IsFromFnResultFrom, IsFromFnResult}
use Rattle.std.proofs.Common.{zero, suc, sym, ◌∙◌, subst, arith}
use Rattle.std.proofs.Math.Decide.{dec_lt}
use denote.Param.Members.{Mut, Called}
use Rattle.lists.specs.Tabulate.{tab, tab-is}

module _ {F B : Type 0} (g : Mut F (ℕ × Unit {0}) B) (f : F) (v : ℕ → B)
    (gives : (i : ℕ) (y : B) (f' : F) → Called g f (i, tt) y f' → (y ≡ v i) × (f' ≡ f)) where
  made_from : (ys : List B) (d : B) (i n : ℕ) → IsFromFnResultFrom g f ys i n → (k : ℕ) → i ≤ k → k < i + n → v k ≡ get_or ys k d
  made_from ys d i zero w k h q = absurd (omega arith)
  made_from ys d i (suc n) w k h q =
      let said = gives i w.1 w.0 w.3 in
      go (dec_lt i k)
      (λ p. made_from ys d (i + 1) n (subst (λ s. IsFromFnResultFrom g s ys (i + 1) n) said.1 w.4) k (omega arith) (omega arith))
      (sym (w.2.1 d ∙ said.0))
    where
      go : Dec (i < k) → (i < k → v k ≡ get_or ys k d) → v i ≡ get_or ys i d → v k ≡ get_or ys k d
      go (yes p) later here = later p
      go (no p) later here = let e : k ≡ i = omega arith in rw e here

  pub made-all : (d : B) (n : ℕ) (ys : List B) → IsFromFnResult g f ys n → ys ≡ tab v n
  made-all d n ys k = sym (tab-is d v n ys k.long (λ i q. made_from ys d 0 n k.each i (omega arith) (omega arith)))
