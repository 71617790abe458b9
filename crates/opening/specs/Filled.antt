-- An array of six that a loop fills, from its first element on, with the values of a function.
use Rattle.std.specs.Prelude.{◌≡◌, List, ℕ, ◌+◌, ◌≤◌, ◌<◌, length, get_or, set}
use Rattle.std.proofs.Common.{sym, ◌∙◌, arith, below_more, length-set, get_or-set_same, get_or-set_other}
use Rattle.lists.specs.Tabulate.{tab, tab-is}

pub record Filled {X : Type 0} (d : X) (f : ℕ → X) (l : List X) (j : ℕ) : Type 0 where
  pub upto : j ≤ 6
  pub long : length l ≡ 6
  pub is : (i : ℕ) → i < j → get_or l i d ≡ f i

module _ {X : Type 0} (d : X) (f : ℕ → X) (l : List X) where
  pub filled_none : length l ≡ 6 → Filled d f l 0
  filled_none e = record { upto = omega arith; long = e; is = λ i h. absurd (omega arith) }

  pub filled_more : (j : ℕ) (x : X) → Filled d f l j → j < 6 → x ≡ f j → Filled d f (set l j x) (j + 1)
  filled_more j x k h e = record {
    upto = omega arith;
    long = length-set l j x ∙ k.long;
    is = below_more (λ i. get_or (set l j x) i d ≡ f i) j
        (λ i q. get_or-set_other l j i x d (omega arith) ∙ k.is i q)
        (get_or-set_same l j x d (omega (arith, k.long)) ∙ e);
  }

  pub filled-all : (j : ℕ) → Filled d f l j → 6 ≤ j → l ≡ tab f 6
  filled-all j k h = sym (tab-is d f 6 l k.long (λ i q. sym (k.is i (omega arith))))
