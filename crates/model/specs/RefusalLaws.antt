-- A refused call changes nothing, and may be left out; an accepted one does what its effect says.
use Rattle.std.specs.Prelude.{◌≡◌, refl, List, [], ◌∷◌, ℕ, zero, suc}
use Rattle.records.specs.Records.{Entry}
use Rattle.model.specs.Book.{Book}
use Rattle.model.specs.Calls.{Call, call_of}
use Rattle.model.specs.Effects.{after}
use Rattle.model.specs.Refusals.{refusal}
use Rattle.model.specs.Answers.{kept, called, accepts, refusing, answer}
use Rattle.model.specs.History.{run_from, run, log, noted, kept_call, accepted_of}

-- ---- one call
module _ (b : Book) (e : Entry) where
  pub refused-same : (k : ℕ) → refusal b e ≡ suc k → (called b e ≡ b) × (answer b e ≡ refusing b (suc k))
  unfolding called answer
  refused-same k r = (rw r, rw r)

  pub accepted-called : {c : Call} → refusal b e ≡ 0 → call_of e ≡ c → called b e ≡ after b c
  unfolding called
  accepted-called r q = rw (r, q)

  pub accepted-answer : {c : Call} → refusal b e ≡ 0 → call_of e ≡ c → answer b e ≡ accepts b c
  unfolding answer
  accepted-answer r q = rw (r, q)

-- ---- a history
pub without-refused : (h : List Entry) → (run (accepted_of h) ≡ run h) × (log (accepted_of h) ≡ log h)
unfolding run_from log called accepted_of
without-refused [] = (refl, refl)
without-refused (e ∷ h) = let ih = without-refused h in go (refusal (run h) e) refl ih.0 ih.1
  where
    go : (k : ℕ) → refusal (run h) e ≡ k → run (accepted_of h) ≡ run h → log (accepted_of h) ≡ log h
        → (run (kept_call k e (accepted_of h)) ≡ kept k (run h) (call_of e)) × (log (kept_call k e (accepted_of h)) ≡ noted k (run h) (call_of e) (log h))
    go zero r p q = (rw (p, r), rw (p, q, r))
    go (suc k) r p q = (p, q)
