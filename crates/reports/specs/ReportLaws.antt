-- What the lowest number of a list that is not below another is, and how it is found place by place.
use Rattle.std.specs.Prelude.{◌≡◌, refl, true, List, [], ◌∷◌, ℕ, suc, ◌≤◌, ◌<◌, ltb, drop, Option, Some, None}
use Rattle.std.proofs.Math.Path.{ap}
use Rattle.std.proofs.Common.{◌∙◌, arith, ltb-true, ltb-false, drop_of_length-le, drop-cons}
use Rattle.lists.specs.Has.{has}
use Rattle.lists.specs.HasLaws.{clash, has_first, has-later, has-each}
use Rattle.lists.specs.Keep.{cond-keeps}
use Rattle.lists.specs.Tabulate.{tab, tab-length, tab-at}
use Rattle.reports.specs.Reports.{lower_from, lowest_from}

-- it is one of the list, and none of the list lies between the two; where there is none, all are below
pub record LowestIs (from : ℕ) (ns : List ℕ) (k : ℕ) : Type 0 where
  pub there : has k ns ≡ true
  pub reached : from ≤ k
  pub lowest : (n : ℕ) → has n ns ≡ true → from ≤ n → k ≤ n

abbrev pub Pinned : ℕ → List ℕ → Option ℕ → Type 0
Pinned from ns (Some k) = LowestIs from ns k
Pinned from ns None = (n : ℕ) → has n ns ≡ true → n < from

module _ (from n : ℕ) (ns : List ℕ) where
  -- ---- the lowest of the first number and those after it
  first-lowest : from ≤ n → ((k : ℕ) → has k ns ≡ true → from ≤ k → n ≤ k) → LowestIs from (n ∷ ns) n
  first-lowest q f = record { there = has_first n ns; reached = q; lowest = has-each (λ k. from ≤ k → n ≤ k) n ns (λ r. omega arith) f }

  later-lowest : (k : ℕ) → LowestIs from ns k → (from ≤ n → k ≤ n) → LowestIs from (n ∷ ns) k
  later-lowest k h f = record {
    there = has-later k n ns h.there;
    reached = h.reached;
    lowest = has-each (λ j. from ≤ j → k ≤ j) n ns f h.lowest;
  }

  pinned-next : (found : Option ℕ) → Pinned from ns found → Pinned from (n ∷ ns) (lower_from from n found)
  pinned-next None h = cond-keeps (Pinned from (n ∷ ns)) (ltb n from) None (Some n)
      (λ e. has-each (λ k. k < from) n ns (ltb-true n from e) h)
      (λ e. first-lowest (ltb-false n from e) (λ k t q. omega (arith, h k t)))
  pinned-next (Some k) h = cond-keeps (Pinned from (n ∷ ns)) (ltb n from) (Some k) _
      (λ e. later-lowest k h (λ q. omega (arith, ltb-true n from e)))
      (λ e. cond-keeps (Pinned from (n ∷ ns)) (ltb k n) (Some k) (Some n)
      (λ d. later-lowest k h (λ q. omega (arith, ltb-true k n d)))
      (λ d. first-lowest (ltb-false n from e) (λ j t q. omega (arith, ltb-false k n d, h.lowest j t q))))

pub pinned : (from : ℕ) (ns : List ℕ) → Pinned from ns (lowest_from from ns)
unfolding lowest_from has
pinned from [] = λ n e. clash e refl
pinned from (n ∷ ns) = pinned-next from n ns (lowest_from from ns) (pinned from ns)

-- ---- place by place, from the last to the first
module _ (from : ℕ) (at : ℕ → ℕ) (rows : ℕ) where
  pub lowest-of-none : lowest_from from (drop rows (tab at rows)) ≡ None
  unfolding lowest_from
  lowest-of-none = ap (lowest_from from) (drop_of_length-le (tab at rows) {i = rows} (omega (arith, tab-length at rows)))

  pub lowest-of-more : (i : ℕ) → i < rows
      → lowest_from from (drop i (tab at rows)) ≡ lower_from from (at i) (lowest_from from (drop (suc i) (tab at rows)))
  unfolding lowest_from
  lowest-of-more i q =
      ap (lowest_from from) (drop-cons (tab at rows) i 0 (omega (arith, tab-length at rows)))
      ∙ ap (λ n. lower_from from n (lowest_from from (drop (suc i) (tab at rows)))) (tab-at 0 at rows i q)
