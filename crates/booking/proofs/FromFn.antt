-- What `from_fn` makes by a closure that each call leaves as it was.
use Rattle.std.specs.Prelude.{◌≡◌, List, ℕ, zero, suc, ◌+◌, ◌<◌, get_or}
use Rattle.std.proofs.Common.{sym, subst, ◌∙◌, arith}
use Rattle.std.specs.Array.{IsFromFnResult, IsFromFnResultFrom}
use denote.Param.Members.{Mut, Called}

module _ {F B : Type 0} (g : Mut F (ℕ × Unit {0}) B) (f : F) (h : ℕ → B) (ys : List B) where
  from_place : (i n : ℕ) → ((k : ℕ) (y : B) (q : F) → k < i + n → Called g f (k, tt) y q → (q ≡ f) × (y ≡ h k))
      → IsFromFnResultFrom g f ys i n → (k : ℕ) → k < n → (d : B) → get_or ys (i + k) d ≡ h (i + k)
  from_place i zero s r k l d = absurd (omega arith)
  from_place i (suc n) s r zero l d =
      let here : i ≡ i + 0 = omega arith in
      subst (λ j. get_or ys j d ≡ h j) here (r.2.1 d ∙ (s i r.1 r.0 (omega arith) r.3).1)
  from_place i (suc n) s r (suc k) l d =
      let next : i + 1 + k ≡ i + suc k = omega arith in
      let rest = subst (λ (p : F). IsFromFnResultFrom g p ys (i + 1) n) (s i r.1 r.0 (omega arith) r.3).0 r.4 in
      subst (λ j. get_or ys j d ≡ h j) next (from_place (i + 1) n (λ j y q m. s j y q (omega arith)) rest k (omega arith) d)

  pub made_by : {n : ℕ} → IsFromFnResult g f ys n → ((k : ℕ) (y : B) (q : F) → k < n → Called g f (k, tt) y q → (q ≡ f) × (y ≡ h k))
      → (k : ℕ) → k < n → (d : B) → get_or ys k d ≡ h k
  made_by {n} r s k l d =
      let same : k ≡ 0 + k = omega arith in
      subst (λ j. get_or ys j d ≡ h j) (sym same) (from_place 0 n (λ j y q m. s j y q (omega arith)) r.each k l d)
