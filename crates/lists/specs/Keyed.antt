-- A list of keys with no key twice: one key's value changed is one store, and a search by number is membership.
use Rattle.std.specs.Prelude.{◌≡◌, true, false, cond, ◌||◌, ℕ, zero, suc, ◌<◌, eqb, length, get_or, set, Some, None}
use Rattle.std.proofs.Math.Path.{refl, ap₂}
use Rattle.std.proofs.Common.{sym, ap, ◌∙◌, subst, arith, eq-eqb, ne_eqb}
use mathlib.Core.List.{List, [], ◌∷◌, map}
use Rattle.lists.specs.Has.{has, Distinct}
use Rattle.lists.specs.HasLaws.{when_true, when_false, neither, or_right, eqb-flip, has-apart}
use Rattle.lists.specs.Seek.{seek, seek-below, seek-hits, seek-misses}

-- ---- a list has what stands in it, and nothing else
pub has-at : (ks : List ℕ) (i : ℕ) → i < length ks → has (get_or ks i 0) ks ≡ true
unfolding has
has-at [] i h = absurd (omega arith)
has-at (k ∷ ks) zero h = ap (λ t. t || has k ks) (eq-eqb k k refl)
has-at (k ∷ ks) (suc i) h = or_right (eqb (get_or ks i 0) k) (has (get_or ks i 0) ks) (has-at ks i (omega arith))

pub has-nowhere : (ks : List ℕ) (n : ℕ) → ((i : ℕ) → i < length ks → get_or ks i 0 ≡ n → ⊥) → has n ks ≡ false
unfolding has
has-nowhere [] n h = refl
has-nowhere (k ∷ ks) n h = ap₂ ◌||◌ (ne_eqb n k (λ e. h 0 (omega arith) (sym e))) (has-nowhere ks n (λ i q. h (suc i) (omega arith)))

-- ---- one key's value changed
module _ {A : Type 0} (f : ℕ → A) where
  map-apart : (ks : List ℕ) (k : ℕ) (a : A) → has k ks ≡ false → map (λ n. cond (eqb n k) a (f n)) ks ≡ map f ks
  unfolding has
  map-apart [] k a h = refl
  map-apart (n ∷ ks) k a h =
      let e = neither (eqb k n) (has k ks) h in
      ap₂ (λ x l. x ∷ l) (when_false a (f n) (eqb-flip n k ∙ e.0)) (map-apart ks k a e.1)

  pub map-changed : (ks : List ℕ) (i : ℕ) (a : A) → Distinct ks → i < length ks
      → map (λ n. cond (eqb n (get_or ks i 0)) a (f n)) ks ≡ set (map f ks) i a
  map-changed [] i a d h = refl
  map-changed (k ∷ ks) zero a d h = ap₂ (λ x l. x ∷ l) (when_true a (f k) (eq-eqb k k refl)) (map-apart ks k a d.0)
  map-changed (k ∷ ks) (suc i) a d h =
      ap₂ (λ x l. x ∷ l)
      (when_false a (f k) (has-apart k (get_or ks i 0) ks d.0 (has-at ks i (omega arith))))
      (map-changed ks i a d.1 (omega arith))

-- ---- a search among the keys
pub found_at : (ks : List ℕ) (n i : ℕ) → seek (λ j. get_or ks j 0) n (length ks) 0 ≡ Some i
    → (i < length ks) × ((get_or ks i 0 ≡ n) × (has n ks ≡ true))
found_at ks n i e =
    let below : i < length ks = omega (arith, seek-below (λ j. get_or ks j 0) n (length ks) 0 i e) in
    let hit : get_or ks i 0 ≡ n = seek-hits (λ j. get_or ks j 0) n (length ks) 0 i e in
    (below, (hit, subst (λ k. has k ks ≡ true) hit (has-at ks i below)))

pub found_none : (ks : List ℕ) (n : ℕ) → seek (λ j. get_or ks j 0) n (length ks) 0 ≡ None → has n ks ≡ false
found_none ks n e = has-nowhere ks n (λ i h. seek-misses (λ j. get_or ks j 0) n (length ks) 0 i e (omega arith) (omega arith))
