-- What a look-up finds in a table of a function's values.
use Rattle.std.specs.Prelude.{◌≡◌, false, cond, ℕ, eqb}
use Rattle.std.proofs.Math.Path.{refl, ap, fun_ext}
use Rattle.std.proofs.Common.{sym, ◌∙◌, eqb-true}
use mathlib.Core.List.{List, [], ◌∷◌, ◌++◌, map}
use Rattle.lists.specs.Has.{has}
use Rattle.lists.specs.HasLaws.{by_test, when_true, when_false}
use Rattle.lists.specs.Look.{look}

module _ {A : Type 0} where
  pub look-map : (f : ℕ → A) (other : A) (keys : List ℕ) (n : ℕ) → look keys (map f keys) other n ≡ cond (has n keys) (f n) other
  unfolding look has
  look-map f other [] n = refl
  look-map f other (k ∷ keys) n = by_test (eqb n k) (λ e. rw e (ap f (sym (eqb-true n k e)))) (λ e. rw e (look-map f other keys n))

  look_none : (other : A) (keys : List ℕ) (n : ℕ) → look keys [] other n ≡ other
  unfolding look
  look_none other [] n = refl
  look_none other (k ∷ keys) n = refl

  -- a function that is `other` off its keys is its table
  pub look-same : (f : ℕ → A) (other : A) (keys : List ℕ) → ((n : ℕ) → has n keys ≡ false → f n ≡ other) → look keys (map f keys) other ≡ f
  look-same f other keys h = fun_ext λ n.
      look-map f other keys n ∙ by_test (has n keys) (λ e. when_true (f n) other e) (λ e. when_false (f n) other e ∙ sym (h n e))

  -- what stands past the last key is never read
  pub look-padded : (f : ℕ → A) (other : A) (keys : List ℕ) (more : List A) → look keys (map f keys ++ more) other ≡ look keys (map f keys) other
  unfolding look
  look-padded f other keys more = fun_ext (go keys)
    where
      go : (keys : List ℕ) (n : ℕ) → look keys (map f keys ++ more) other n ≡ look keys (map f keys) other n
      go [] n = refl
      go (k ∷ keys) n = ap (cond (eqb n k) (f k)) (go keys n)

-- a table of rows, each the table of its own function
pub look-both : {A : Type 0} (p : ℕ → ℕ → A) (other : A) (row : ℕ → List A) (keys columns : List ℕ)
    → ((n c : ℕ) → has n keys ≡ false → p n c ≡ other) → ((n : ℕ) → look columns (row n) other ≡ p n)
    → (λ n. look columns (look keys (map row keys) [] n) other) ≡ p
look-both p other row keys columns g h = fun_ext λ n. ap (λ r. look columns r other) (look-map row [] keys n) ∙ by_test (has n keys)
    (λ e. ap (λ r. look columns r other) (when_true (row n) [] e) ∙ h n)
    (λ e. ap (λ r. look columns r other) (when_false (row n) [] e) ∙ fun_ext (λ c. look_none other columns c ∙ sym (g n c e)))
