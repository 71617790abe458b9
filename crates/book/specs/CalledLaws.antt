-- From the groups of calls to the book's one entry.
use Rattle.std.specs.Prelude.{◌≡◌, ⊤, List, ◌∷◌, ℕ, zero, suc, ℤ, pos, replicate, Result, Ok, Err}
use Rattle.std.proofs.Math.Path.{refl, ap, subst}
use Rattle.std.proofs.Common.{sym, ◌∙◌}
use Rattle.records.specs.Records.{Entry}
use Rattle.memory.specs.Layout.{counts_long, money_long}
use Rattle.memory.specs.Memory.{Holds}
use Rattle.model.specs.Book.{Book, new}
use Rattle.model.specs.Calls.{Call, Opening, Trade, opening, trade, call_of}
use Rattle.model.specs.Effects.{after}
use Rattle.model.specs.Refusals.{first_of, ranged, tests, refusal}
use Rattle.model.specs.Answers.{kept, called, accepts, answered, answer}
use Rattle.model.specs.History.{run_from}
use Rattle.model.specs.Kept.{Kept}
use Rattle.model.proofs.KeptLaws.{kept-called, kept_run}
use Rattle.model.proofs.OpenDayLaws.{plainly}
use Rattle.standing.specs.Standing.{rows_of, view}
use Rattle.standing.specs.Made.{Sound, decided, Made}
use Rattle.standing.specs.Made as standing
use Rattle.standing.specs.StandingLaws.{view-is, new-rows, sound-of, sound-kept, sound-holds}
use Rattle.dealing.specs.declared.Dealt.{Dealt}
use Rattle.dealing.specs.Dealing.{Traded, answer_of as trade_answer}
use Rattle.opening.specs.declared.dates.OpenError.{OpenError}
use Rattle.opening.specs.declared.dates.OpenError.TheVariants as opens
use Rattle.opening.specs.Opens.{answer_of as open_answer}
use Rattle.refusals.specs.declared.Refusal.{Refusal}
use Rattle.book.specs.declared.calls.Answer.{Answer}
use Rattle.book.specs.declared.calls.Answer.TheVariants.{Refused}
use Rattle.book.specs.Called.{answer_of, Called}
use Rattle.book.specs.Answered.{numbered, dealt, opened, Answered}

-- ---- what the groups answer
-- a call that is no open, by its number
number-says : (b : Book) (c : Call) (a : Answer) → ((o : Opening) → c ≡ opening o → ⊥) → answer_of (after b c) a ≡ accepts b c
    → (n : ℕ) → decided b c ≡ n → answer_of (kept n b c) (numbered a n) ≡ answered n b c
number-says b c a other e zero q = e
number-says b c a other e (suc n) q = sym (plainly b c other (suc n) q)

pub number-refused : (a : Answer) (n : ℕ) → (n ≡ 0 → ⊥) → Refused n ≡ numbered a n
number-refused a zero h = absurd (h refl)
number-refused a (suc n) h = refl

deal-says : (b : Book) (r : Result Dealt Refusal) → answer_of b (dealt r) ≡ trade_answer r
deal-says b (Ok d) = refl
deal-says b (Err refusal) = refl

open-says : (b : Book) (r : Result ⊤ OpenError) → answer_of b (opened r) ≡ open_answer r
open-says b (Ok done) = refl
open-says b (Err (opens.Refused refusal)) = refl
open-says b (Err (opens.NotNext day)) = refl

module _ {counts counts' : List ℕ} {money money' : List ℤ} where
  pub made-answered : {c : Call} {number : ℕ} (a : Answer) → ((o : Opening) → c ≡ opening o → ⊥)
      → answer_of (after (view counts money) c) a ≡ accepts (view counts money) c
      → Made counts money c number counts' money' → Answered counts money c (numbered a number) counts' money'
  made-answered {c} {number} a other e m =
      let b = view counts money in
      record {
        answers = subst (λ n. answer_of (kept n b c) (numbered a number) ≡ answered n b c) m.answers
            (number-says b c a other e number (sym m.answers));
        memory = subst (λ n. Holds counts' money' (rows_of (kept n b c))) m.answers m.memory;
      }

  pub traded-dealt : {t : Trade} (r : Result Dealt Refusal) → Traded counts money t r counts' money'
      → Answered counts money (trade t) (dealt r) counts' money'
  traded-dealt {t} r h = let b = view counts money in record { answers = deal-says (kept (decided b (trade t)) b (trade t)) r ∙ h.answers; memory = h.memory }

  pub open-answered : {o : Opening} (r : Result ⊤ OpenError) → standing.Answered counts money (opening o) (open_answer r) counts' money'
      → Answered counts money (opening o) (opened r) counts' money'
  open-answered {o} r h = let b = view counts money in record { answers = open-says (kept (decided b (opening o)) b (opening o)) r ∙ h.answers; memory = h.memory }

-- ---- a record on a sound memory
-- one that is called on a book's memory is the book's next call
pub next-holds : {b : Book} {counts counts' : List ℕ} {money money' : List ℤ} → Kept b → (e : Entry) (h : List Entry) → Holds counts money (rows_of (run_from b h))
    → Holds counts' money' (rows_of (called (view counts money) e)) → Holds counts' money' (rows_of (run_from b (e ∷ h)))
unfolding run_from
next-holds {counts'} {money'} k e h m n = subst (λ b. Holds counts' money' (rows_of (called b e))) (view-is (kept_run k h) m) n

module _ {counts : List ℕ} {money : List ℤ} (s : Sound counts money) (e : Entry) where
  first-ranged : (n : ℕ) → ranged e ≡ n → refusal (view counts money) e ≡ first_of (n ∷ tests (view counts money) (call_of e))
  unfolding refusal
  first-ranged n q = ap (λ k. first_of (k ∷ tests (view counts money) (call_of e))) q

  by-refusal : {r : Answer} {counts' : List ℕ} {money' : List ℤ} (n : ℕ) → refusal (view counts money) e ≡ n
      → answer_of (kept n (view counts money) (call_of e)) r ≡ answered n (view counts money) (call_of e)
      → Holds counts' money' (rows_of (kept n (view counts money) (call_of e))) → Called counts money e r counts' money'
  unfolding called answer
  by-refusal {r} {counts'} {money'} n q a h =
      let b = view counts money in
      let memory : Holds counts' money' (rows_of (called b e)) = subst (λ k. Holds counts' money' (rows_of (kept k b (call_of e)))) (sym q) h in
      let next = kept-called e (sound-kept s) in
      let views : view counts' money' ≡ called b e = view-is next memory in
      record {
        answers = ap (λ v. answer_of v r) views ∙ subst (λ k. answer_of (kept k b (call_of e)) r ≡ answered k b (call_of e)) (sym q) a;
        memory = memory;
        views = views;
        sound = sound-of next memory;
      }

  pub answered-called : {r : Answer} {counts' : List ℕ} {money' : List ℤ} → ranged e ≡ 0
      → Answered counts money (call_of e) r counts' money' → Called counts money e r counts' money'
  unfolding first_of
  answered-called q a = by-refusal (decided (view counts money) (call_of e)) (first-ranged 0 q) a.answers a.memory

  -- "2 | field out of range": nothing changes
  pub unranged-called : ranged e ≡ 2 → Called counts money e (Refused 2) counts money
  unfolding first_of
  unranged-called q = by-refusal 2 (first-ranged 2 q) refl (sound-holds s)

-- ---- memory of a new book
pub zeros-new : {counts : List ℕ} {money : List ℤ} → counts ≡ replicate counts_long 0 → money ≡ replicate money_long (pos 0)
    → Holds counts money (rows_of new)
zeros-new c m = record { counts = c ∙ sym new-rows.0; money = m ∙ sym new-rows.1 }
