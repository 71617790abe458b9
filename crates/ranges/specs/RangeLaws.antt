-- What follows for ranges: ranges of numbers as they are written, and what a record in range tells.
use Rattle.std.specs.Prelude.{◌≡◌, refl, Bool, true, false, ◌&&◌, cond, List, [], ◌∷◌, ℕ, zero, suc, ◌*◌, ◌/◌, ◌%◌, ◌≤◌, ◌<◌, T, leb, pos, length, get_or, ◌≤ℤ◌, Ok, Err}
use Rattle.std.proofs.Common.{sym, ◌∙◌, subst, arith, le-leb, leb-true}
use Rattle.std.proofs.Math.Bool.{and-true, and-eq-true_iff}
use Rattle.std.proofs.Math.Decide.{ℕ_discrete, dec_le}
use Rattle.std.proofs.Math.Dec.{leb-zero}
use Rattle.std.specs.Int.Signed.{le_z, le_z_yes}
use Rattle.std.proofs.lemmas.Bool.{lt-leb}
use Rattle.lists.specs.Passing.{all, all-at}
use Rattle.days.specs.Days.{rising}
use Rattle.folding.specs.Fold.{unfolded}
use Rattle.folding.specs.FoldLaws.{unfolded-even, unfolded-odd}
use Rattle.fields.specs.Fields.{Quantity, day, rate, Ceilings, between, signed_to, ceilings, fields_of, count, shaped}
use Rattle.ranges.specs.Ranges.{lowest, highest, meant, from, to, value, within_ceilings, all_within, in_range, checked, refusal_of}
use Rattle.ranges.specs.Cells.{least, greatest}

-- ---- ranges as written

leb-same : (a b c d : ℕ) → (a ≤ b → c ≤ d) → (c ≤ d → a ≤ b) → leb a b ≡ leb c d
leb-same a b c d f g = go (dec_le a b)
  where
    go : Dec (a ≤ b) → leb a b ≡ leb c d
    go (yes h) = le-leb a b h ∙ sym (le-leb c d (f h))
    go (no h) = let k : c ≤ d → ⊥ = λ q. h (g q) in lt-leb a b (omega arith) ∙ sym (lt-leb c d (omega arith))

-- a number within the ceilings is one from the least to the greatest as written
pub within-written : (c : Ceilings) (n : ℕ) → le_z (lowest c) (meant c n) && le_z (meant c n) (highest c) ≡ leb (least c) n && leb n (greatest c)
within-written (between a b) n = refl
within-written (signed_to b) n = go b (ℕ_discrete (n % 2) 0)
  where
    go : (b : ℕ) → Dec (n % 2 ≡ 0) → le_z (lowest (signed_to b)) (unfolded n) && le_z (unfolded n) (pos b) ≡ leb 0 n && leb n (2 * b)
    go zero (yes e) = rw (unfolded-even n e, leb-zero (n / 2), leb-zero n) (leb-same (n / 2) 0 n 0 (λ h. omega arith) (λ h. omega arith))
    go zero (no e) = rw (unfolded-odd n e, leb-zero n, lt-leb n 0 (omega arith))
    go (suc b) (yes e) = rw (unfolded-even n e, leb-zero n) (leb-same (n / 2) (suc b) n (2 * suc b) (λ h. omega arith) (λ h. omega arith))
    go (suc b) (no e) = rw (unfolded-odd n e, leb-zero n, and-true (leb (n / 2) b)) (leb-same (n / 2) b n (2 * suc b) (λ h. omega arith) (λ h. omega arith))

pub rate-written : (n : ℕ) → within_ceilings rate n ≡ leb n 200000
unfolding ceilings
rate-written n = within-written (signed_to 100000) n ∙ rw (leb-zero n)

pub day-written : (n : ℕ) → within_ceilings day n ≡ leb n 3652
unfolding ceilings
day-written n = rw (leb-zero n)

pub between-written : (q : Quantity) (a b n : ℕ) → ceilings q ≡ between a b → within_ceilings q n ≡ leb a n && leb n b
between-written q a b n e = rw e

module _ (q : Quantity) (n : ℕ) (w : within_ceilings q n ≡ true) where
  -- as written
  pub within-ends : (least (ceilings q) ≤ n) × (n ≤ greatest (ceilings q))
  within-ends =
      let a = (and-eq-true_iff _ _).0 (sym (within-written (ceilings q) n) ∙ w) in
      (leb-true _ _ a.0, leb-true _ _ a.1)

  -- as meant
  pub within-values : (from q ≤ℤ value q n) × (value q n ≤ℤ to q)
  within-values =
      let a = (and-eq-true_iff (le_z (from q) (value q n)) (le_z (value q n) (to q))).0 w in
      (le_z_yes (subst T (sym a.0) tt), le_z_yes (subst T (sym a.1) tt))

-- ---- what is known of each element

within-at : (quantities : List Quantity) (fields : List ℕ) (i : ℕ) (d : Quantity) → all_within quantities fields ≡ true → i < length quantities → within_ceilings (get_or quantities i d) (get_or fields i 0) ≡ true
unfolding all_within
within-at [] fields i d a h = absurd (omega arith)
within-at (q ∷ more) [] i d a h = let z : ◌≡◌ {A = ℕ} 0 1 = cc in absurd (omega arith)
within-at (q ∷ more) (n ∷ fields) zero d a h = ((and-eq-true_iff (within_ceilings q n) (all_within more fields)).0 a).0
within-at (q ∷ more) (n ∷ fields) (suc i) d a h = within-at more fields i d ((and-eq-true_iff (within_ceilings q n) (all_within more fields)).0 a).1 (omega arith)

-- ---- what a record in range tells

-- the refusal's number: 2, or none
pub refusal-number : (kind : ℕ) (fields exceptions : List ℕ) → refusal_of (checked kind fields exceptions) ≡ cond (in_range kind fields exceptions) 0 2
refusal-number kind fields exceptions = go (in_range kind fields exceptions)
  where
    go : (t : Bool) → refusal_of (cond t (Ok tt) (Err (record {}))) ≡ cond t 0 2
    go true = refl
    go false = refl

pub record InRange (kind : ℕ) (fields exceptions : List ℕ) : Type 0 where
  pub shape : shaped kind fields (length exceptions) ≡ true
  pub within : (i : ℕ) (d : Quantity) → i < count kind → within_ceilings (get_or (fields_of kind) i d) (get_or fields i 0) ≡ true
  pub days : (i : ℕ) → i < length exceptions → get_or exceptions i 0 ≤ 3652
  pub rises : rising exceptions ≡ true

pub range-tells : (kind : ℕ) (fields exceptions : List ℕ) → in_range kind fields exceptions ≡ true → InRange kind fields exceptions
range-tells kind fields exceptions e =
    let a = (and-eq-true_iff (shaped kind fields (length exceptions)) _).0 e in
    let b = (and-eq-true_iff (all_within (fields_of kind) fields) _).0 a.1 in
    let c = (and-eq-true_iff (all (within_ceilings day) exceptions) _).0 b.1 in
    record {
      shape = a.0;
      within = λ i d h. within-at (fields_of kind) fields i d b.0 h;
      days = λ i h. leb-true _ _ (sym (day-written (get_or exceptions i 0)) ∙ all-at (within_ceilings day) exceptions i c.0 h);
      rises = c.1;
    }
