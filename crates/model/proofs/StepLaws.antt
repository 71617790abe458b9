-- What an accepted call tells, and induction over histories.
use Rattle.std.specs.Prelude.{◌≡◌, Bool, true, false, ℕ, zero, suc, T, ltb, take}
use Rattle.std.proofs.Math.Path.{refl}
use mathlib.Core.List.{List, [], ◌∷◌}
use Rattle.std.proofs.Common.{suc-ne-zero}
use Rattle.records.specs.Records.{Entry}
use Rattle.model.specs.Book.{Book, new}
use Rattle.model.specs.Calls.{Call, call_of}
use Rattle.model.specs.Effects.{after}
use Rattle.model.specs.Refusals.{needs, first_of, ranged, tests, refusal}
use Rattle.model.specs.Answers.{kept, called}
use Rattle.model.specs.History.{Step, step, run_from, run, log, noted}

-- ---- all tests are passed
abbrev pub Passed : List ℕ → Type 0
Passed [] = Unit {0}
Passed (t ∷ ts) = (t ≡ 0) × Passed ts

pub passes : (ts : List ℕ) → first_of ts ≡ 0 → Passed ts
unfolding first_of
passes [] e = tt
passes (zero ∷ ts) e = (refl, passes ts e)
passes (suc n ∷ ts) e = absurd (suc-ne-zero n e)

pub passed_first : (n : ℕ) (ts : List ℕ) → Passed ts → Passed (take n ts)
passed_first zero ts p = tt
passed_first (suc n) [] p = tt
passed_first (suc n) (t ∷ ts) p = (p.0, passed_first n ts p.1)

-- a test with a number above 0 is passed only where it holds
pub needed : {t : Bool} (number : ℕ) → T (ltb 0 number) → needs t number ≡ 0 → t ≡ true
needed {t} number h e = go t number h e
  where
    go : (t : Bool) (n : ℕ) → T (ltb 0 n) → needs t n ≡ 0 → t ≡ true
    go true n h e = refl
    go false zero h e = absurd h
    go false (suc n) h e = absurd (suc-ne-zero n e)

pub record Accepted (b : Book) (e : Entry) : Type 0 where
  pub ranges : ranged e ≡ 0
  pub passed : Passed (tests b (call_of e))

pub accepted-by : (b : Book) (e : Entry) → refusal b e ≡ 0 → Accepted b e
unfolding refusal
accepted-by b e r = let p = passes (ranged e ∷ tests b (call_of e)) r in record { ranges = p.0; passed = p.1 }

-- ---- what holds of a new book and is kept by each accepted call holds after any calls. A step may use what is proved of every
-- history before it
module _ (P : Book → List Step → Type 0) (begins : P new [])
    (goes_on : (h : List Entry) (e : Entry) → Accepted (run h) e → P (run h) (log h) → P (after (run h) (call_of e)) (step (run h) (call_of e) ∷ log h)) where
  turn : (h : List Entry) (e : Entry) → P (run h) (log h) → (k : ℕ) → refusal (run h) e ≡ k → P (kept k (run h) (call_of e)) (noted k (run h) (call_of e) (log h))
  turn h e p zero r = goes_on h e (accepted-by (run h) e r) p
  turn h e p (suc k) r = p

  pub induct : (h : List Entry) → P (run h) (log h)
  unfolding run_from log called
  induct [] = begins
  induct (e ∷ h) = turn h e (induct h) (refusal (run h) e) refl

-- the same where a step needs only the tests, by the call
module _ (P : Book → List Step → Type 0) (begins : P new [])
    (goes_on : (b : Book) (l : List Step) (c : Call) → Passed (tests b c) → P b l → P (after b c) (step b c ∷ l)) where
  pub induct-tests : (h : List Entry) → P (run h) (log h)
  induct-tests = induct P begins (λ h e a p. goes_on (run h) (log h) (call_of e) a.passed p)
