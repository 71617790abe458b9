-- The join of the code and the model. From any kept book: whatever records and bytes it is given, every call is answered as the model answers it, and
-- the memory is that of the model's book. From a new book the promises hold besides.
use Rattle.std.specs.Prelude.{◌≡◌, List, [], ◌∷◌, reverse, ℕ, ℤ, drop, Result}
use Rattle.std.proofs.Common.{sym, ap, ◌∙◌, subst}
use Rattle.records.specs.declared.Malformed.{Malformed}
use Rattle.records.specs.Records.{Entry, Parsed, unread, parsed, reading}
use Rattle.records.specs.Files.{writings, AllWhole}
use Rattle.memory.specs.Memory.{Holds}
use Rattle.model.specs.Book.{Book, new}
use Rattle.model.specs.Answers.{answer}
use Rattle.model.specs.History.{run_from, run}
use Rattle.model.specs.Promises.{Promises}
use Rattle.model.proofs.PromiseLaws.{promises}
use Rattle.model.specs.Kept.{Kept}
use Rattle.model.proofs.KeptLaws.{kept_new, kept_run}
use Rattle.standing.specs.Standing.{rows_of, view}
use Rattle.standing.specs.Made.{Sound}
use Rattle.standing.specs.StandingLaws.{view-is, sound-of}
use Rattle.book.specs.declared.calls.Answer.{Answer}
use Rattle.book.specs.declared.bytes.Fed.{Fed}
use Rattle.book.specs.Called.{answer_of, Called}
use Rattle.book.specs.CalledLaws.{next-holds}
use Rattle.book.specs.Feeding.{FedBy, FedAt, Ran}
use Rattle.book.specs.FeedingLaws.{reads-written}

-- ---- a memory and the calls that made it from a book's, the latest first: that of the book, and that after a call on one that was reached
pub data Reached (b : Book) : List ℕ → List ℤ → List Entry → Type 0 where
  first : {counts : List ℕ} {money : List ℤ} → Holds counts money (rows_of b) → Reached b counts money []
  after : {counts counts' : List ℕ} {money money' : List ℤ} {h : List Entry} {e : Entry} {r : Answer}
      → Reached b counts money h → Called counts money e r counts' money' → Reached b counts' money' (e ∷ h)

-- the book read off the memory is the model's after the same calls, the memory is just that of this book, and it can be called again
pub record JoinedFrom (b : Book) (counts : List ℕ) (money : List ℤ) (h : List Entry) : Type 0 where
  pub views : view counts money ≡ run_from b h
  pub memory : Holds counts money (rows_of (run_from b h))
  pub sound : Sound counts money

module _ {b : Book} (k : Kept b) where
  holds-from : {counts : List ℕ} {money : List ℤ} (h : List Entry) → Holds counts money (rows_of (run_from b h)) → JoinedFrom b counts money h
  holds-from h m = let next = kept_run k h in record { views = view-is next m; memory = m; sound = sound-of next m }

  reached-holds : {counts : List ℕ} {money : List ℤ} {h : List Entry} → Reached b counts money h → Holds counts money (rows_of (run_from b h))
  unfolding run_from
  reached-holds (first m) = m
  reached-holds (after {h} {e} p c) = next-holds k e h (reached-holds p) c.memory

  pub joined-from : {counts : List ℕ} {money : List ℤ} {h : List Entry} → Reached b counts money h → JoinedFrom b counts money h
  joined-from {h} p = holds-from h (reached-holds p)

  -- and each call answers as the model's
  pub answers-joined : {counts counts' : List ℕ} {money money' : List ℤ} {h : List Entry} {e : Entry} {r : Answer}
      → Reached b counts money h → Called counts money e r counts' money' → answer_of (run_from b (e ∷ h)) r ≡ answer (run_from b h) e
  answers-joined {e} {r} p c =
      ap (λ x. answer_of x r) (sym (joined-from (after p c)).views) ∙ c.answers ∙ ap (λ x. answer x e) (joined-from p).views

-- ---- from a new book the promises hold besides
pub record Joined (counts : List ℕ) (money : List ℤ) (h : List Entry) : Type 0 where
  pub from : JoinedFrom new counts money h
  pub promises : Promises h

holds-joined : {counts : List ℕ} {money : List ℤ} (h : List Entry) → Holds counts money (rows_of (run h)) → Joined counts money h
holds-joined h m = record { from = holds-from kept_new h m; promises = promises h }

pub joined : {counts : List ℕ} {money : List ℤ} {h : List Entry} → Reached new counts money h → Joined counts money h
joined {h} p = holds-joined h (reached-holds kept_new p)

-- ---- bytes: a record that was read is the next call, and one that was not is none
abbrev pub with_read : Parsed → List Entry → List Entry
with_read unread h = h
with_read (parsed e rest) h = e ∷ h

pub fed-reached : {b : Book} {bytes : List ℕ} {at : ℕ} {counts counts' : List ℕ} {money money' : List ℤ} {h : List Entry} {r : Result Fed Malformed}
    → Reached b counts money h → FedAt bytes at counts money r counts' money' → Reached b counts' money' (with_read (reading (drop at bytes)) h)
fed-reached {b} {bytes} {at} {counts} {counts'} {money} {money'} {h} {r} p f = go (reading (drop at bytes)) f.outcome
  where
    go : (g : Parsed) → FedBy g bytes at counts money r counts' money' → Reached b counts' money' (with_read g h)
    go unread (q, (c, m)) = rw (c, m) p
    go (parsed e rest) (a, (q, c)) = after p c

-- ---- a file: its records are called in their order
pub ran-joined : {bytes : List ℕ} {place : ℕ} {counts : List ℕ} {money : List ℤ} (f : Ran bytes place counts money)
    → Joined counts money (reverse f.entries)
ran-joined f = holds-joined (reverse f.entries) f.memory

-- what was written of records is run as just these
pub file-joined : (l : List Entry) {place : ℕ} {counts : List ℕ} {money : List ℤ} → AllWhole l → Ran (writings l) place counts money
    → Joined counts money (reverse l)
file-joined l {place} {counts} {money} w f =
    subst (λ h. Joined counts money (reverse h)) (reads-written l w f.entries (drop place (writings l)) f.reads) (ran-joined f)
