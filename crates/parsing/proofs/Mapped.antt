-- What `map_err` and a `?` behind it leave: the result as it was, or what was made of its error.
use Rattle.std.specs.Prelude.{◌≡◌, refl, ℕ, Result, Ok, Err, MatchResult}
use Rattle.std.specs.Result.{IsErrAnd}
use Rattle.std.proofs.Common.{arith, sym, ◌∙◌}

module _ {T E D : Type 0} (s : Result T E) (r : Result T D) (P : E → D → Type 0) (h : MatchResult s (λ x. r ≡ Ok x) (λ e. IsErrAnd r (P e))) where
  pub mapped_ok : (t : T) → r ≡ Ok t → s ≡ Ok t
  mapped_ok t e = go s h
    where
      go : (s : Result T E) → MatchResult s (λ x. r ≡ Ok x) (λ e. IsErrAnd r (P e)) → s ≡ Ok t
      go (Ok x) k = let same : ◌≡◌ {A = Result T D} (Ok t) (Ok x) = sym e ∙ k in let both : t ≡ x = cc in rw both refl
      go (Err x) k = absurd (rw e at k)

  pub mapped_err : (d : D) (Q : E → D → Type 0) → ((e : E) (y : D) → P e y → Q e y) → r ≡ Err d → (e : E) × (s ≡ Err e) × Q e d
  mapped_err d Q made e = go s h
    where
      go : (s : Result T E) → MatchResult s (λ x. r ≡ Ok x) (λ e. IsErrAnd r (P e)) → (e : E) × (s ≡ Err e) × Q e d
      go (Ok x) k =
          let same : ◌≡◌ {A = Result T D} (Err d) (Ok x) = sym e ∙ k in
          let z : ◌≡◌ {A = ℕ} 0 1 = cc in
          absurd (omega arith)
      go (Err x) k = (x, refl, made x d (rw e at k))
