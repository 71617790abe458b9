-- A table of a function's values by key, filled up to a length: a row of it, one row stored, one row more.
use Rattle.std.specs.Prelude.{◌≡◌, true, false, ◌||◌, ℕ, ◌+◌, ◌-◌, ◌≤◌, ◌<◌, eqb, length, get_or, set, replicate}
use Rattle.std.proofs.Math.Path.{refl, ap₂}
use Rattle.std.proofs.Common.{sym, ap, ◌∙◌, arith, eq-eqb, eqb-true}
use mathlib.Core.List.{List, [], ◌∷◌, ◌++◌, map, map-append}
use Rattle.std.proofs.lemmas.List.{length-map, replicate-append-replicate}
use Rattle.lists.specs.Has.{has, Distinct}
use Rattle.lists.specs.HasLaws.{by_test, when_true, when_false, or_right}
use Rattle.lists.specs.Keyed.{map-changed}
use Rattle.lists.specs.Padded.{padded}
use Rattle.lists.specs.Rows.{get_d-map-below}
use Rattle.lists.specs.PaddedLaws.{padded-at, padded-set, padded-more}

module _ {A : Type 0} where
  -- two functions that agree at the keys
  pub members-mapped : (f g : ℕ → A) (ks : List ℕ) → ((k : ℕ) → has k ks ≡ true → f k ≡ g k) → map f ks ≡ map g ks
  unfolding has
  members-mapped f g [] h = refl
  members-mapped f g (k ∷ ks) h =
      ap₂ (λ x l. x ∷ l)
      (h k (ap (λ t. t || has k ks) (eq-eqb k k refl)))
      (members-mapped f g ks (λ j e. h j (or_right (eqb j k) (has j ks) e)))

  map-alike : (f : ℕ → A) (a : A) (ks : List ℕ) → ((k : ℕ) → f k ≡ a) → map f ks ≡ replicate (length ks) a
  map-alike f a [] h = refl
  map-alike f a (k ∷ ks) h = ap₂ (λ x l. x ∷ l) (h k) (map-alike f a ks h)

  module _ (w : ℕ) (d : A) (f : ℕ → A) (ks : List ℕ) where
    pub table_at : (i : ℕ) → i < length ks → get_or (padded w d (map f ks)) i d ≡ f (get_or ks i 0)
    table_at i h = padded-at w d (map f ks) d i (rw (length-map ks f) h) ∙ get_d-map-below f ks i 0 d h

    -- a table of nothing but the filling
    pub table-alike : length ks ≤ w → ((k : ℕ) → f k ≡ d) → padded w d (map f ks) ≡ replicate w d
    table-alike h e =
        let n : length ks + (w - length ks) ≡ w = omega arith in
        rw (length-map ks f, map-alike f d ks e) (replicate-append-replicate (length ks) (w - length ks) d ∙ ap (λ k. replicate k d) n)

    module _ (g : ℕ → A) (n : ℕ) where
      -- a function that differs at one key: one store
      pub table-set : (i : ℕ) (a : A) → Distinct ks → i < length ks → get_or ks i 0 ≡ n → g n ≡ a
          → ((k : ℕ) → eqb k n ≡ false → g k ≡ f k) → set (padded w d (map f ks)) i a ≡ padded w d (map g ks)
      table-set i a once h is e same =
          padded-set w d (map f ks) i a (rw (length-map ks f) h)
          ∙ ap (padded w d) (sym (map-changed f ks i a once h)
          ∙ members-mapped _ g ks (λ k m. rw is (by_test (eqb k n)
          (λ t. when_true a (f k) t ∙ sym (ap g (eqb-true k n t) ∙ e))
          (λ t. when_false a (f k) t ∙ sym (same k t)))))

      -- one key more, where the others keep their values
      pub table_more : length ks < w → ((k : ℕ) → has k ks ≡ true → g k ≡ f k)
          → set (padded w d (map f ks)) (length ks) (g n) ≡ padded w d (map g (ks ++ (n ∷ [])))
      table_more h same =
          ap (λ k. set (padded w d (map f ks)) k (g n)) (sym (length-map ks f))
          ∙ padded-more w d (map f ks) (g n) (rw (length-map ks f) h)
          ∙ ap (λ l. padded w d (l ++ (g n ∷ []))) (sym (members-mapped g f ks same))
          ∙ ap (padded w d) (sym (map-append g ks (n ∷ [])))
