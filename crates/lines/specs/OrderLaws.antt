-- The numbers of a list in rising order: none is lost, none is added, and the one that is lowest from a number on follows those before it.
use Rattle.std.specs.Prelude.{◌≡◌, refl, Bool, true, false, cond, ◌||◌, List, [], ◌∷◌, ◌++◌, ℕ, suc, ◌+◌, ◌≤◌, ◌<◌, ltb, eqb, length}
use Rattle.std.proofs.Common.{sym, ap, subst, ◌∙◌, arith, ltb-true, ltb-false, lt-ltb, le-ltb}
use Rattle.std.proofs.Math.Bool.{or_assoc, or_comm, or_self_left}
use Rattle.lists.specs.Has.{has}
use Rattle.lists.specs.HasLaws.{by_test, clash, has_first, has-later, has-each, those-all}
use Rattle.lists.specs.Keep.{cond-keeps}
use Rattle.lists.specs.Those.{those}
use Rattle.days.specs.Days.{rising, rising_after}
use Rattle.reports.specs.ReportLaws.{LowestIs}
use Rattle.lines.specs.Lines.{placed, in_order}

-- ---- membership
or_swap : (r s t : Bool) → (r || (s || t)) ≡ (s || (r || t))
or_swap r s t = sym (or_assoc r s t) ∙ ap (λ u. u || t) (or_comm r s) ∙ or_assoc s r t

has-placed : (m n : ℕ) (ns : List ℕ) → has m (placed n ns) ≡ (eqb m n || has m ns)
unfolding placed has
has-placed m n [] = refl
has-placed m n (k ∷ ns) =
    cond-keeps (λ l. has m l ≡ (eqb m n || (eqb m k || has m ns))) (ltb n k) _ _
    (λ low. refl)
    (λ low. cond-keeps (λ l. has m l ≡ (eqb m n || (eqb m k || has m ns))) (ltb k n) _ _
    (λ high. ap (λ t. eqb m k || t) (has-placed m n ns) ∙ or_swap (eqb m k) (eqb m n) (has m ns))
    (λ high. let same : k ≡ n = omega (arith, ltb-false n k low, ltb-false k n high) in
    sym (or_self_left (eqb m k) (has m ns)) ∙ ap (λ j. eqb m j || (eqb m k || has m ns)) same))

pub has-in-order : (m : ℕ) (keys : List ℕ) → has m (in_order keys) ≡ has m keys
unfolding in_order has
has-in-order m [] = refl
has-in-order m (n ∷ keys) = has-placed m n (in_order keys) ∙ ap (λ t. eqb m n || t) (has-in-order m keys)

-- ---- how many
placed-length : (n : ℕ) (ns : List ℕ) → length (placed n ns) ≤ suc (length ns)
unfolding placed
placed-length n [] = omega arith
placed-length n (k ∷ ns) = go (ltb n k) (ltb k n) (placed-length n ns)
  where
    go : (s t : Bool) → length (placed n ns) ≤ suc (length ns)
        → length (cond s (n ∷ k ∷ ns) (cond t (k ∷ placed n ns) (k ∷ ns))) ≤ suc (suc (length ns))
    go true t h = omega arith
    go false true h = omega arith
    go false false h = omega arith

pub in-order-length : (keys : List ℕ) → length (in_order keys) ≤ length keys
unfolding in_order
in-order-length [] = omega arith
in-order-length (n ∷ keys) = omega (arith, placed-length n (in_order keys), in-order-length keys)

-- ---- each is above those before it
abbrev Rising : List ℕ → Type 0
Rising [] = Unit {0}
Rising (n ∷ ns) = ((m : ℕ) → has m ns ≡ true → n < m) × Rising ns

placed-rises : (n : ℕ) (ns : List ℕ) → Rising ns → Rising (placed n ns)
unfolding placed has
placed-rises n [] r = (λ m e. clash e refl, tt)
placed-rises n (k ∷ ns) r =
    cond-keeps Rising (ltb n k) _ _
    (λ low. let below : n < k = ltb-true n k low in (has-each (λ m. n < m) k ns below (λ m e. omega (arith, r.0 m e)), r))
    (λ low. cond-keeps Rising (ltb k n) _ _
    (λ high. (λ m e. has-each (λ j. k < j) n ns (ltb-true k n high) r.0 m (sym (has-placed m n ns) ∙ e), placed-rises n ns r.1))
    (λ high. r))

in-order-rises : (keys : List ℕ) → Rising (in_order keys)
unfolding in_order
in-order-rises [] = tt
in-order-rises (n ∷ keys) = placed-rises n (in_order keys) (in-order-rises keys)

rises-after : (n : ℕ) (ns : List ℕ) → Rising (n ∷ ns) → rising_after n ns ≡ true
unfolding rising_after
rises-after n [] r = refl
rises-after n (k ∷ ns) r = rw (lt-ltb n k (r.0 k (has_first k ns))) (rises-after k ns r.1)

rises : (ns : List ℕ) → Rising ns → rising ns ≡ true
unfolding rising
rises [] r = refl
rises (n ∷ ns) r = rises-after n ns r

pub in-order-rising : (keys : List ℕ) → rising (in_order keys) ≡ true
in-order-rising keys = rises (in_order keys) (in-order-rises keys)

-- ---- those before a number
abbrev pub before : ℕ → List ℕ → List ℕ
before from ns = those (λ n. ltb n from) ns

before-none : (from : ℕ) (ns : List ℕ) → ((m : ℕ) → has m ns ≡ true → from ≤ m) → before from ns ≡ []
unfolding those
before-none from [] h = refl
before-none from (n ∷ ns) h = rw (le-ltb n from (h n (has_first n ns))) (before-none from ns (λ m e. h m (has-later m n ns e)))

module _ (from k n : ℕ) (ns : List ℕ) (l : LowestIs from (n ∷ ns) k) where
  passed_over : n < from → LowestIs from ns k
  passed_over q = record {
    there = has-each (λ m. from ≤ m → has m ns ≡ true) n ns (λ h. absurd (omega arith)) (λ m e h. e) k l.there l.reached;
    reached = l.reached;
    lowest = λ m e. l.lowest m (has-later m n ns e);
  }

  come-to : Rising (n ∷ ns) → from ≤ n → k ≡ n
  come-to r q =
      has-each (λ m. m ≤ n → m ≡ n) n ns (λ h. refl) (λ m e h. absurd (omega (arith, r.0 m e))) k l.there (l.lowest n (has_first n ns) q)

before-next : (from k : ℕ) (ns : List ℕ) → Rising ns → LowestIs from ns k → before (k + 1) ns ≡ before from ns ++ (k ∷ [])
unfolding those has
before-next from k [] r l = clash l.there refl
before-next from k (n ∷ ns) r l = by_test (ltb n from)
    (λ e. let low : n < from = ltb-true n from e in
    rw (e, lt-ltb n (k + 1) (omega (arith, l.reached)), before-next from k ns r.1 (passed_over from k n ns l low)))
    (λ e. let q : from ≤ n = ltb-false n from e in
    let same : k ≡ n = come-to from k n ns l r q in
    subst (λ m. before (m + 1) (n ∷ ns) ≡ before from (n ∷ ns) ++ (m ∷ [])) (sym same)
    (rw (
      e,
      lt-ltb n (n + 1) (omega arith),
      before-none (n + 1) ns (λ m t. omega (arith, r.0 m t)),
      before-none from ns (λ m t. omega (arith, r.0 m t)),
    )))

-- ---- a walk over some keys
module _ (keys : List ℕ) where
  pub ordered-none : before 0 (in_order keys) ≡ []
  ordered-none = before-none 0 (in_order keys) (λ m e. omega arith)

  pub ordered-next : (from k : ℕ) → LowestIs from keys k → before (k + 1) (in_order keys) ≡ before from (in_order keys) ++ (k ∷ [])
  ordered-next from k l = before-next from k (in_order keys) (in-order-rises keys) (record {
    there = has-in-order k keys ∙ l.there;
    reached = l.reached;
    lowest = λ m e. l.lowest m (sym (has-in-order m keys) ∙ e);
  })

  pub ordered-all : (from : ℕ) → ((m : ℕ) → has m keys ≡ true → m < from) → before from (in_order keys) ≡ in_order keys
  ordered-all from h = those-all (λ n. ltb n from) (in_order keys) (λ m e. lt-ltb m from (h m (sym (has-in-order m keys) ∙ e)))
