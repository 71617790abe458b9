-- A table's rule by one computation: a test that passes at every entry of a list holds at each of its places.
use Rattle.std.specs.Prelude.{◌≡◌, Bool, true, false, ◌&&◌, List, [], ◌∷◌, ℕ, zero, suc, ◌+◌, ◌≤◌, ◌<◌, T, length, get_or, drop}
use Rattle.std.proofs.Common.{sym, ◌∙◌, subst, zero-add, suc-add, add-suc, add-zero, add-one, arith, drop_of_length-le, drop-cons}
use Rattle.std.specs.Float.Ieee.Fits.{and_l, and_r}

-- the test at each entry with its place, the first entry's place being `place`
abbrev pub every : (ℕ → ℕ → Bool) → ℕ → List ℕ → Bool
every test place [] = true
every test place (x ∷ rest) = test place x && every test (suc place) rest

module _ (test : ℕ → ℕ → Bool) where
  along : (table : List ℕ) (place k : ℕ) → T (every test place table) → k < length table → T (test (place + k) (get_or table k 0))
  along [] place k t h = absurd (omega arith)
  along (x ∷ rest) place zero t h = subst (λ (n : ℕ). T (test n x)) (sym (add-zero place)) (and_l (test place x) (every test (suc place) rest) t)
  along (x ∷ rest) place (suc k) t h =
      subst (λ (n : ℕ). T (test n (get_or rest k 0))) (suc-add place k ∙ sym (add-suc place k))
      (along rest (suc place) k (and_r (test place x) (every test (suc place) rest) t) (omega arith))

  pub at_each : (table : List ℕ) → T (every test 0 table) → (k : ℕ) → k < length table → T (test k (get_or table k 0))
  at_each table t k h = subst (λ (n : ℕ). T (test n (get_or table k 0))) (zero-add k) (along table 0 k t h)

-- ---- a list tested from the front: what is left decides
module _ (test : ℕ → ℕ → Bool) (l : List ℕ) (i : ℕ) where
  pub every_more : i < length l → test i (get_or l i 0) ≡ true → every test i (drop i l) ≡ every test (i + 1) (drop (i + 1) l)
  every_more h e = rw (drop-cons l i 0 h, e, add-one)

  pub every-stop : i < length l → test i (get_or l i 0) ≡ false → every test i (drop i l) ≡ false
  every-stop h e = rw (drop-cons l i 0 h, e)

  pub every-end : length l ≤ i → every test i (drop i l) ≡ true
  every-end h = rw (drop_of_length-le l h)
