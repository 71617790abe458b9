-- The list of a function's first n values; where two functions agree, so do their lists.
use Rattle.std.specs.Prelude.{◌≡◌, length, set}
use Rattle.std.proofs.Math.Path.{refl}
use Rattle.std.proofs.Common.{sym, ◌∙◌, length-append, length-set, ext_get_or, get_or-set_same, get_or-set_other}
use mathlib.Core.List.{List, [], ◌∷◌, ◌++◌}
use Prim.Native.Nat.{ℕ, zero, suc, ◌<◌}
use Rattle.std.proofs.Math.Decide.{dec_lt}
use native.Mathlib.Omega.{arith}
use Rattle.std.proofs.Math.ListN.{get_or, get_or-append}
use Rattle.std.proofs.lemmas.List.{get_or_at}

unfoldable pub tab : {X : Type 0} → (ℕ → X) → ℕ → List X
tab f zero = []
tab f (suc n) = tab f n ++ (f n ∷ [])

module _ {X : Type 0} where
  pub tab-length : (f : ℕ → X) (n : ℕ) → length (tab f n) ≡ n
  unfolding tab
  tab-length f zero = refl
  tab-length f (suc n) = let e = tab-length f n in rw (length-append (tab f n) (f n ∷ [])) (omega arith)

  pub tab-at : (d : X) (f : ℕ → X) (n i : ℕ) → i < n → get_or (tab f n) i d ≡ f i
  unfolding tab
  tab-at d f zero i h = absurd (omega arith)
  tab-at d f (suc n) i h = go (dec_lt i n) (tab-at d f n i)
    where
      go : Dec (i < n) → (i < n → get_or (tab f n) i d ≡ f i) → get_or (tab f n ++ (f n ∷ [])) i d ≡ f i
      go (yes p) ih = get_or-append (tab f n) _ d i (rw (tab-length f n) p) ∙ ih p
      go (no p) ih = let e : i ≡ n = omega arith in rw e (get_or_at (tab f n) (f n) [] d n (tab-length f n))

  -- a list's own elements
  pub tab-is : (d : X) (f : ℕ → X) (n : ℕ) (l : List X) → length l ≡ n → ((i : ℕ) → i < n → f i ≡ get_or l i d) → tab f n ≡ l
  tab-is d f n l e h = ext_get_or d _ _ (tab-length f n ∙ sym e) λ i p. let q : i < n = omega (arith, tab-length f n) in tab-at d f n i q ∙ h i q

  -- two functions that agree below n
  pub tab-same : (f g : ℕ → X) (n : ℕ) → ((i : ℕ) → i < n → f i ≡ g i) → tab f n ≡ tab g n
  unfolding tab
  tab-same f g zero h = refl
  tab-same f g (suc n) h = rw (tab-same f g n (λ i q. h i (omega arith)), h n (omega arith))

  -- two that agree but at one place
  pub tab-set : (f g : ℕ → X) (n j : ℕ) (x : X) → j < n → g j ≡ x → ((i : ℕ) → i < n → (i ≡ j → ⊥) → g i ≡ f i) → tab g n ≡ set (tab f n) j x
  tab-set f g n j x q e h = ext_get_or x _ _ (tab-length g n ∙ sym (length-set (tab f n) j x ∙ tab-length f n))
      λ i p. let lt : i < n = omega (arith, tab-length g n) in tab-at x g n i lt ∙ go i lt (dec_lt i j) (dec_lt j i)
    where
      other : (i : ℕ) → i < n → (i ≡ j → ⊥) → g i ≡ get_or (set (tab f n) j x) i x
      other i lt ne = h i lt ne ∙ sym (get_or-set_other (tab f n) j i x x ne ∙ tab-at x f n i lt)

      go : (i : ℕ) → i < n → Dec (i < j) → Dec (j < i) → g i ≡ get_or (set (tab f n) j x) i x
      go i lt (yes u) v = other i lt (omega arith)
      go i lt (no u) (yes v) = other i lt (omega arith)
      go i lt (no u) (no v) = let s : i ≡ j = omega arith in rw s (e ∙ sym (get_or-set_same (tab f n) j x x (rw (tab-length f n) q)))
