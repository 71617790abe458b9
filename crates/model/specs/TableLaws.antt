-- Sums over a table of the first numbers.
use Rattle.std.specs.Prelude.{◌≡◌, refl, true, false, cond, ◌||◌, List, [], ◌∷◌, ℕ, zero, suc, ◌<◌, ◌≤◌, eqb, ℤ, pos, ◌+ℤ◌}
use Rattle.std.proofs.Common.{sym, ◌∙◌, ap, ap₂, subst, arith, eqb-true, eq-eqb}
use Rattle.std.proofs.lemmas.Bool.{eqb-false}
use Rattle.std.proofs.Math.IntN.{+ℤ_idl, +ℤ_idr}
use Rattle.lists.specs.Has.{has, Distinct}
use Rattle.lists.specs.HasLaws.{by_test, when_true, when_false, or_right}
use Rattle.lists.specs.Tabulate.{tab, tab-same}
use Rattle.whole.specs.Sums.{sum_z, sum-last}
use Rattle.whole.specs.Over.{add-crossed, sum_over}
use Rattle.model.specs.SumLaws.{only}

pub tab-none : (f : ℕ → ℤ) (n : ℕ) → ((i : ℕ) → f i ≡ pos 0) → sum_z (tab f n) ≡ pos 0
unfolding tab sum_z
tab-none f zero h = refl
tab-none f (suc n) h = sum-last (tab f n) (f n) ∙ ap₂ ◌+ℤ◌ (tab-none f n h) (h n)

pub tab-add : (f g : ℕ → ℤ) (n : ℕ) → sum_z (tab (λ i. f i +ℤ g i) n) ≡ sum_z (tab f n) +ℤ sum_z (tab g n)
unfolding tab sum_z
tab-add f g zero = refl
tab-add f g (suc n) =
    sum-last (tab (λ i. f i +ℤ g i) n) (f n +ℤ g n)
    ∙ ap (λ t. t +ℤ (f n +ℤ g n)) (tab-add f g n)
    ∙ add-crossed (sum_z (tab f n)) (sum_z (tab g n)) (f n) (g n)
    ∙ sym (ap₂ ◌+ℤ◌ (sum-last (tab f n) (f n)) (sum-last (tab g n) (g n)))

tab-away : (k : ℕ) (x : ℤ) (n : ℕ) → n ≤ k → sum_z (tab (only k x) n) ≡ pos 0
unfolding tab sum_z
tab-away k x zero h = refl
tab-away k x (suc n) h =
    sum-last (tab (only k x) n) (only k x n)
    ∙ ap₂ ◌+ℤ◌ (tab-away k x n (omega arith)) (by_test (eqb n k) (λ e. absurd (omega (arith, eqb-true n k e))) (when_false x (pos 0)))

-- one place that is in the table
tab-only : (k : ℕ) (x : ℤ) (n : ℕ) → k < n → sum_z (tab (only k x) n) ≡ x
unfolding tab
tab-only k x zero h = absurd (omega arith)
tab-only k x (suc n) h =
    sum-last (tab (only k x) n) (only k x n)
    ∙ by_test (eqb n k)
    (λ e. ap₂ ◌+ℤ◌ (tab-away k x n (omega (arith, eqb-true n k e))) (when_true x (pos 0) e) ∙ +ℤ_idl x)
    (λ e. ap₂ ◌+ℤ◌ (tab-only k x n (omega (arith, eqb-false n k e))) (when_false x (pos 0) e) ∙ +ℤ_idr x)

-- a table that has a list's numbers and is 0 elsewhere
tab-part : (f : ℕ → ℤ) (ks : List ℕ) (n : ℕ) → Distinct ks → ((k : ℕ) → has k ks ≡ true → k < n)
    → sum_z (tab (λ i. cond (has i ks) (f i) (pos 0)) n) ≡ sum_over f ks
unfolding has sum_z
tab-part f [] n d h = tab-none (λ i. pos 0) n (λ i. refl)
tab-part f (k ∷ ks) n d h =
    ap sum_z (tab-same _ (λ i. only k (f k) i +ℤ cond (has i ks) (f i) (pos 0)) n (λ i lt. split i))
    ∙ tab-add (only k (f k)) (λ i. cond (has i ks) (f i) (pos 0)) n
    ∙ ap₂ ◌+ℤ◌
    (tab-only k (f k) n (h k (ap (λ t. t || has k ks) (eq-eqb k k refl))))
    (tab-part f ks n d.1 (λ i e. h i (or_right (eqb i k) (has i ks) e)))
  where
    split : (i : ℕ) → cond (eqb i k || has i ks) (f i) (pos 0) ≡ only k (f k) i +ℤ cond (has i ks) (f i) (pos 0)
    split i = by_test (eqb i k)
        (λ e. rw (e, subst (λ t. has t ks ≡ false) (sym (eqb-true i k e)) d.0) (ap f (eqb-true i k e) ∙ sym (+ℤ_idr (f k))))
        (λ e. rw e (sym (+ℤ_idl _)))

pub tab-over : (f : ℕ → ℤ) (ks : List ℕ) (n : ℕ) → Distinct ks → ((k : ℕ) → has k ks ≡ true → k < n)
    → ((k : ℕ) → has k ks ≡ false → f k ≡ pos 0) → sum_z (tab f n) ≡ sum_over f ks
tab-over f ks n d h z =
    ap sum_z (tab-same f (λ i. cond (has i ks) (f i) (pos 0)) n
    (λ i lt. by_test (has i ks) (λ e. sym (when_true (f i) (pos 0) e)) (λ e. z i e ∙ sym (when_false (f i) (pos 0) e))))
    ∙ tab-part f ks n d h
