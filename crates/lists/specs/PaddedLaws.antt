-- A padded list is the list as far as it goes, and the filling after it.
use Rattle.std.specs.Prelude.{◌≡◌, refl, List, [], ◌∷◌, ◌++◌, ℕ, suc, ◌+◌, ◌-◌, ◌≤◌, ◌<◌, length, get_or, set, take, drop, replicate}
use Rattle.std.proofs.Common.{sym, ap, ◌∙◌, subst, append-nil, arith, length-append, length-set, drop_at, get_or-append-add}
use Rattle.std.proofs.Math.Decide.{dec_lt}
use Rattle.std.proofs.lemmas.List.{length-replicate, replicate-append-replicate, set-append_left}
use Rattle.std.proofs.Math.ListN.{get_or-append}
use Rattle.std.proofs.Math.Seq.{append_snoc, take-append_seam, set-append_seam}
use Rattle.lists.specs.Keep.{replicate-keeps}
use Rattle.lists.specs.Parts.{with_part}
use Rattle.lists.specs.Padded.{padded}

pub drop-replicate : {X : Type 0} (n : ℕ) (d : X) (k : ℕ) → k ≤ n → drop k (replicate n d) ≡ replicate (n - k) d
drop-replicate n d k h =
    let e : n ≡ k + (n - k) = omega arith in
    ap (λ t. drop k (replicate t d)) e
    ∙ ap (drop k) (sym (replicate-append-replicate k (n - k) d))
    ∙ drop_at (replicate k d) (replicate (n - k) d) k (length-replicate k d)

module _ {X : Type 0} (n : ℕ) (d : X) (l : List X) where
  pub padded-length : length l ≤ n → length (padded n d l) ≡ n
  padded-length h = simp (length-append, length-replicate) (omega arith)

  -- an element of the list, and one of the filling
  pub padded-at : (e : X) (i : ℕ) → i < length l → get_or (padded n d l) i e ≡ get_or l i e
  padded-at e i h = get_or-append l (replicate (n - length l) d) e i h

  pub padded-past : (i : ℕ) → length l ≤ i → get_or (padded n d l) i d ≡ d
  padded-past i h =
      let e : i ≡ length l + (i - length l) = omega arith in
      ap (λ t. get_or (padded n d l) t d) e
      ∙ get_or-append-add l (replicate (n - length l) d) (i - length l) d
      ∙ replicate-keeps (λ x. x ≡ d) d (n - length l) d (i - length l) refl refl

  pub padded-keeps : (P : X → Type 0) → P d → ((i : ℕ) → P (get_or l i d)) → (i : ℕ) → P (get_or (padded n d l) i d)
  padded-keeps P p h i = go (dec_lt i (length l))
    where
      go : Dec (i < length l) → P (get_or (padded n d l) i d)
      go (yes q) = subst P (sym (padded-at d i q)) (h i)
      go (no q) = subst P (sym (padded-past i (omega arith))) p

  -- the list itself
  pub take-padded : take (length l) (padded n d l) ≡ l
  take-padded = take-append_seam l (replicate (n - length l) d)

  pub padded-full : length l ≡ n → padded n d l ≡ l
  padded-full h =
      let e : n - length l ≡ 0 = omega arith in
      rw e (append-nil l)

  -- a store, one element more, and the list written over the filling
  pub padded-set : (i : ℕ) (x : X) → i < length l → set (padded n d l) i x ≡ padded n d (set l i x)
  padded-set i x h = rw (length-set l i x) (set-append_left l (replicate (n - length l) d) i x h)

  pub padded-more : (x : X) → length l < n → set (padded n d l) (length l) x ≡ padded n d (l ++ (x ∷ []))
  padded-more x h =
      let e : n - length l ≡ suc (n - (length l + 1)) = omega arith in
      rw (length-append l (x ∷ []), e, set-append_seam l d (replicate (n - (length l + 1)) d) x)
      (sym (append_snoc l x (replicate (n - (length l + 1)) d)))

  pub padded-over : length l ≤ n → with_part 0 (length l) (replicate n d) l ≡ padded n d l
  padded-over h = ap (λ t. l ++ t) (drop-replicate n d (length l) h)
