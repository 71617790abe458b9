-- Courses: written calls that all pass, with the book and the log after them, so that examples can be computed part by part.
use Rattle.std.specs.Prelude.{◌≡◌, refl, true, List, [], ◌∷◌, ◌++◌, map, ℕ, ℤ, replicate}
use Rattle.std.proofs.Common.{ap, ap₂, ◌∙◌}
use Rattle.lists.specs.Passing.{all}
use Rattle.days.specs.Days.{rising, is_weekend, is_exception, is_working, first_working, no_long_break, accepted}
use Rattle.calendar.specs.Listing.{listing}
use Rattle.calendar.specs.Examples.{plain}
use Rattle.fields.specs.Fields.{ceilings, kinds}
use Rattle.ranges.specs.Ranges.{all_within}
use Rattle.folding.specs.FoldLaws.{unfolded-folded}
use Rattle.records.specs.Records.{Entry}
use Rattle.model.specs.Book.{Book, new, working}
use Rattle.model.specs.Calls.{Opening, call_of, opening}
use Rattle.model.specs.Effects.{opened_with, after}
use Rattle.model.specs.Refusals.{first_of, refusal}
use Rattle.model.specs.Answers.{called, Answer, accepts, answer}
use Rattle.model.specs.History.{Step, step, run_from, run, noted, log, answers_to}
use Rattle.model.specs.Entries.{starts, opens}
use Rattle.model.proofs.StepLaws.{Passed, passes}
use Rattle.model.specs.RefusalLaws.{accepted-called, accepted-answer}

-- ---- more calls on a book, the latest first
unfoldable pub after_all : List Entry → Book → Book
after_all [] b = b
after_all (e ∷ es) b = after (after_all es b) (call_of e)

unfoldable pub steps_of : List Entry → Book → List Step
steps_of [] b = []
steps_of (e ∷ es) b = step (after_all es b) (call_of e) ∷ steps_of es b

-- what each is refused for
unfoldable pub refusals : List Entry → Book → List ℕ
refusals [] b = []
refusals (e ∷ es) b = refusal (after_all es b) e ∷ refusals es b

-- ---- courses: the calls, the book after them, and their steps
pub record Course : Type 0 where
  pub calls : List Entry
  pub book : Book
  pub steps : List Step

abbrev accepted_at : Step → Answer
accepted_at s = accepts s.before s.call

pub record Runs (c : Course) : Type 0 where
  pub books : run c.calls ≡ c.book
  pub logs : log c.calls ≡ c.steps
  pub answers : answers_to c.calls ≡ map accepted_at c.steps

abbrev nothing : Course
nothing = record { calls = []; book = new; steps = [] }

nothing-runs : Runs nothing
unfolding run_from log answers_to
nothing-runs = record { books = refl; logs = refl; answers = refl }

-- ---- with one call more that passes
abbrev with : Entry → Course → Course
with e c = record { calls = e ∷ c.calls; book = after c.book (call_of e); steps = step c.book (call_of e) ∷ c.steps }

with-runs : (e : Entry) (c : Course) → Runs c → refusal c.book e ≡ 0 → Runs (with e c)
unfolding run_from called log answers_to
with-runs e c r p = record {
  books = ap (λ b. called b e) r.books ∙ accepted-called c.book e p refl;
  logs =
      ap (λ b. noted (refusal b e) b (call_of e) (log c.calls)) r.books
      ∙ ap₂ (λ k l. noted k c.book (call_of e) l) p r.logs;
  answers = ap₂ ◌∷◌ (ap (λ b. answer b e) r.books ∙ accepted-answer c.book e p refl) r.answers;
}

-- ---- with more calls that pass
abbrev pub further : List Entry → Course → Course
further es c = record { calls = es ++ c.calls; book = after_all es c.book; steps = steps_of es c.book ++ c.steps }

all-run : (es : List Entry) (c : Course) → Runs c → Passed (refusals es c.book) → Runs (further es c)
unfolding after_all refusals steps_of
all-run [] c r p = r
all-run (e ∷ es) c r p = with-runs e (further es c) (all-run es c r p.1) p.0

pub further-runs : (es : List Entry) (c : Course) → Runs c → first_of (refusals es c.book) ≡ 0 → Runs (further es c)
further-runs es c r p = all-run es c r (passes (refusals es c.book) p)

-- ---- with an open: the codes that are listed are named
abbrev opening_at : ℕ → ℤ → ℕ → Opening
opening_at day rate margin = record { day = day; rates = replicate 6 rate; margins = replicate 6 margin }

abbrev pub opened : List ℕ → ℕ → ℤ → ℕ → Course → Course
opened codes day rate margin c = record {
  calls = opens day rate margin ∷ c.calls;
  book = opened_with codes c.book (opening_at day rate margin);
  steps = step c.book (opening (opening_at day rate margin)) ∷ c.steps;
}

call_opens : (day : ℕ) (rate : ℤ) (margin : ℕ) → call_of (opens day rate margin) ≡ opening (opening_at day rate margin)
unfolding call_of
call_opens day rate margin = ap (λ r. opening (opening_at day r margin)) (unfolded-folded rate)

open-lists : {codes : List ℕ} (b : Book) (o : Opening) → listing (working b) o.day ≡ record { known = true; codes = codes }
    → after b (opening o) ≡ opened_with codes b o
unfolding after
open-lists b o e = ap (λ l. opened_with l.codes b o) e

pub opened-runs : (codes : List ℕ) (day : ℕ) (rate : ℤ) (margin : ℕ) (c : Course) → Runs c
    → listing (working c.book) day ≡ record { known = true; codes = codes }
    → refusal c.book (opens day rate margin) ≡ 0
    → Runs (opened codes day rate margin c)
opened-runs codes day rate margin c r e p =
    let o = call_opens day rate margin in
    let n = with-runs (opens day rate margin) c r p in
    record {
      books = n.books ∙ ap (after c.book) o ∙ open-lists c.book (opening_at day rate margin) e;
      logs = n.logs ∙ ap (λ x. step c.book x ∷ c.steps) o;
      answers = n.answers ∙ ap (λ x. map accepted_at (step c.book x ∷ c.steps)) o;
    }

-- ---- a start without exceptions
plain-accepted : accepted plain ≡ true
unfolding is_working is_exception is_weekend first_working no_long_break
plain-accepted = refl

abbrev pub at_start : Course
at_start = further (starts 3000000 100 ∷ []) nothing

pub start-runs : Runs at_start
unfolding all rising ceilings kinds all_within new call_of after_all first_of refusal refusals
start-runs = further-runs (starts 3000000 100 ∷ []) nothing nothing-runs (rw plain-accepted)
