-- Tables stand for the book after the calls, and what a walk over them prints is what the calls print.
use Rattle.std.specs.Prelude.{◌≡◌, refl, true, List, [], ◌∷◌, ◌++◌, ℕ, zero, suc, ℤ}
use Rattle.std.proofs.Common.{sym, ap, ap₂, ◌∙◌, append-nil, append_assoc}
use Rattle.lists.specs.LookLaws.{look-same, look-both}
use Rattle.calendar.specs.Listing.{listing}
use Rattle.records.specs.Records.{Entry}
use Rattle.tallies.specs.declared.Tally.{Tally}
use Rattle.rates.specs.declared.Settled.{Settled}
use Rattle.positions.specs.Deals.{flat}
use Rattle.positions.specs.declared.Position.{Position}
use Rattle.funds.specs.Funds.{new_funds}
use Rattle.funds.specs.declared.Funds.{Funds}
use Rattle.model.specs.Book.{Book, Settings, Today, Terms, no_terms, no_tally, no_settled, Held, no_held, positions_of, working, new}
use Rattle.model.specs.Calls.{Opening, opening, call_of}
use Rattle.model.specs.Effects.{opened_with, after}
use Rattle.model.specs.Refusals.{refusal}
use Rattle.model.specs.Answers.{called, refusing, answer}
use Rattle.model.specs.History.{run_from, run, answers_to}
use Rattle.model.specs.RefusalLaws.{refused-same, accepted-called}
use Rattle.model.specs.Kept.{Framed}
use Rattle.model.proofs.FrameLaws.{framed-new}
use Rattle.model.proofs.KeptLaws.{known}
use Rattle.model.specs.Examples.{Line, ok, lines_of, lines_to, printed}
use Rattle.tables.specs.Tables.{Table, book, tabled, moved, walk}

-- ---- a book with one form is that of its tables
same_parts : {s : Settings} {t : Today} {cs rs ms : List ℕ} {terms terms' : ℕ → Terms} {tally tally' : ℕ → Tally} {settled settled' : ℕ → Settled}
    {held held' : ℕ → Held} {funds funds' : ℕ → Funds} {position position' : ℕ → ℕ → Position} {z : ℤ}
    → terms ≡ terms' → tally ≡ tally' → settled ≡ settled' → held ≡ held' → funds ≡ funds' → position ≡ position'
    → ◌≡◌ {A = Book}
    (record {
      settings = s;
      today = t;
      contracts = record { codes = cs; terms = terms; tally = tally };
      results = record { codes = rs; settled = settled };
      accounts = record { members = ms; held = held; funds = funds; position = position };
      house = z;
    })
    (record {
      settings = s;
      today = t;
      contracts = record { codes = cs; terms = terms'; tally = tally' };
      results = record { codes = rs; settled = settled' };
      accounts = record { members = ms; held = held'; funds = funds'; position = position' };
      house = z;
    })
same_parts a b c d e f = rw (a, b, c, d, e, f)

book-tabled : (b : Book) → Framed b → book (tabled b) ≡ b
book-tabled b i =
    same_parts
    (look-same b.contracts.terms no_terms b.contracts.codes (λ c e. (i.unlisted-terms c e).0))
    (look-same b.contracts.tally no_tally b.contracts.codes (λ c e. (i.unlisted-terms c e).1))
    (look-same b.results.settled no_settled b.results.codes i.unanswered)
    (look-same b.accounts.held no_held b.accounts.members (λ n e. (i.strangers n e).0))
    (look-same b.accounts.funds new_funds b.accounts.members (λ n e. (i.strangers n e).1))
    (look-both b.accounts.position flat (positions_of b) b.accounts.members b.contracts.codes i.strange-positions
    (λ n. look-same (b.accounts.position n) flat b.contracts.codes (i.unlisted n)))

-- ---- what is reached by calls, the latest first: the book as a table, and the lines that are printed
pub record Reached (h : List Entry) (t : Table) (lines : List Line) : Type 0 where
  pub books : run h ≡ book t
  pub prints : printed h ≡ lines

pub reached-none : Reached [] (tabled new) []
unfolding lines_to answers_to run_from
reached-none = record { books = sym (book-tabled new framed-new); prints = refl }

run_more : (e : Entry) (h : List Entry) → run (e ∷ h) ≡ called (run h) e
unfolding run_from
run_more e h = refl

reached-one : (e : Entry) (h : List Entry) (t : Table) (lines : List Line) → Reached h t lines
    → Reached (e ∷ h) (moved (refusal (book t) e) t e) (lines ++ lines_of e.kind (answer (book t) e))
unfolding lines_to answers_to
reached-one e h t lines r = record {
  books = go (refusal (book t) e) refl;
  prints = ap₂ (λ l b. l ++ lines_of e.kind (answer b e)) r.prints r.books;
}
  where
    moves : run (e ∷ h) ≡ called (book t) e
    moves = run_more e h ∙ ap (λ b. called b e) r.books

    go : (k : ℕ) → refusal (book t) e ≡ k → run (e ∷ h) ≡ book (moved k t e)
    go zero p = sym (book-tabled (run (e ∷ h)) (known (e ∷ h)).framed) ∙ ap (λ b. book (tabled b)) (moves ∙ accepted-called (book t) e p refl)
    go (suc n) p = moves ∙ (refused-same (book t) e n p).0

-- calls, the earliest first, put on calls, the latest first
unfoldable pub later : List Entry → List Entry → List Entry
later [] h = h
later (e ∷ es) h = later es (e ∷ h)

reached-walk : (es h : List Entry) (t : Table) (lines : List Line) → Reached h t lines
    → Reached (later es h) (walk es t).table (lines ++ (walk es t).lines)
unfolding later walk
reached-walk [] h t lines r = rw append-nil r
reached-walk (e ∷ es) h t lines r = rw⁻¹ append_assoc
    (reached-walk es (e ∷ h) (moved (refusal (book t) e) t e) (lines ++ lines_of e.kind (answer (book t) e)) (reached-one e h t lines r))

pub reached-part : (es h : List Entry) (t t' : Table) (lines more : List Line) → Reached h t lines
    → walk es t ≡ record { lines = more; table = t' } → Reached (later es h) t' (lines ++ more)
reached-part es h t t' lines more r e = rw e at (reached-walk es h t lines r)

-- ---- one call, where the prover is told what it cannot compute on its way
module _ (t : Table) (e : Entry) where
  pub refused-walk : (k : ℕ) → refusal (book t) e ≡ suc k → walk (e ∷ []) t ≡ record { lines = lines_of e.kind (refusing (book t) (suc k)); table = t }
  unfolding walk answer
  refused-walk k r = rw (r, append-nil)

  pub opened-walk : (o : Opening) (codes : List ℕ) → refusal (book t) e ≡ 0 → call_of e ≡ opening o
      → listing (working (book t)) o.day ≡ record { known = true; codes = codes }
      → walk (e ∷ []) t ≡ record { lines = ok e.kind ∷ []; table = tabled (opened_with codes (book t) o) }
  unfolding walk answer after
  opened-walk o codes r c q = rw (r, c) (ap (λ l. record { lines = ok e.kind ∷ []; table = tabled (opened_with l.codes (book t) o) }) q)
