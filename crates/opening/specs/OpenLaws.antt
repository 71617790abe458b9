-- An open told of a memory: what it may rely on, what each of its tests decides, and what it leaves.
use Rattle.std.specs.Prelude.{◌≡◌, Bool, true, false, cond, ◌||◌, List, [], ◌∷◌, ℕ, ◌+◌, ◌≤◌, eqb, ℤ, Err, Option, Some, None}
use Rattle.std.proofs.Math.Path.{refl}
use Rattle.std.proofs.Common.{sym, ap, ap₂, ◌∙◌, subst}
use Rattle.days.specs.Days.{is_working, next_working, is_on}
use Rattle.calendar.specs.Listing.{Listing, listing}
use Rattle.memory.specs.declared.header_row.Header.{Header}
use Rattle.memory.specs.Layout.{header_at, with_header}
use Rattle.memory.specs.Memory.{Rows, Holds, with_header_row}
use Rattle.memory.specs.MemoryLaws.{put-header}
use Rattle.model.specs.Book.{Book, working}
use Rattle.model.specs.Calls.{Opening, opening}
use Rattle.model.specs.Effects.{opened, after}
use Rattle.model.specs.Refusals.{needs, first_of, is_shut, expected, is_next}
use Rattle.model.specs.Answers.{Answer, refused, done, expecting, answered, kept}
use Rattle.standing.specs.Standing.{rows_of, view}
use Rattle.standing.specs.Made.{Sound, decided, Answered}
use Rattle.standing.specs.StandingLaws.{sound-kept, sound-holds}
use Rattle.standing.specs.SoundLaws.{exceptions_of, sound-whole, sound-header, exceptions-are}
use Rattle.standing.specs.Turns.{Turns}
use Rattle.standing.specs.OpenRows.{relisted_rows, open_header}
use Rattle.standing.specs.OpenRowLaws.{open-rows}
use Rattle.opening.specs.Opens.{answer_of, not_next_as}

-- the four tests of an open
tests-are : (s t u v : Bool) → first_of (needs s 3 ∷ needs t 19 ∷ needs u 20 ∷ needs v 21 ∷ []) ≡ cond s (cond t (cond u (cond v 0 21) 20) 19) 3
unfolding first_of
tests-are false t u v = refl
tests-are true false u v = refl
tests-are true true false v = refl
tests-are true true true false = refl
tests-are true true true true = refl

-- ---- what the code sees of the memory
module _ (counts : List ℕ) where
  abbrev pub shut_at : Bool
  shut_at = eqb (header_at counts).point 1 || eqb (header_at counts).point 4

  abbrev pub works_at : ℕ → Bool
  works_at = is_working (exceptions_of counts)

  abbrev pub expected_at : Option ℕ
  expected_at = next_working works_at ((header_at counts).day + 1)

  abbrev pub next_at : ℕ → Bool
  next_at day = eqb (header_at counts).point 1 || is_on day expected_at

not-next-answers : (a : Option ℕ) → answer_of (Err (not_next_as a)) ≡ expecting a
not-next-answers (Some d) = refl
not-next-answers None = refl

module _ {counts : List ℕ} {money : List ℤ} (s : Sound counts money) where
  abbrev book : Book
  book = view counts money

  pub last-day : (header_at counts).day ≤ 3652
  last-day = subst (λ (x : Header). x.day ≤ 3652) (sym (sound-header s)) (sound-kept s).sized.today.day

  expected-is : expected_at counts ≡ expected book
  expected-is = ap₂ (λ (e : List ℕ) (x : Header). next_working (is_working e) (x.day + 1)) (exceptions-are s) (sound-header s)

  -- ---- what the tests decide
  module _ (o : Opening) where
    abbrev listing_at : Listing
    listing_at = listing (works_at counts) o.day

    decides : decided book (opening o)
        ≡ cond (shut_at counts) (cond (works_at counts o.day) (cond (next_at counts o.day) (cond listing_at.known 0 21) 20) 19) 3
    decides =
        tests-are (is_shut book.today.point) (working book o.day) (is_next book o.day) (listing (working book) o.day).known
        ∙ sym (ap₂ (λ (e : List ℕ) (x : Header). cond (eqb x.point 1 || eqb x.point 4)
        (cond (is_working e o.day) (cond (eqb x.point 1 || is_on o.day (next_working (is_working e) (x.day + 1)))
        (cond (listing (is_working e) o.day).known 0 21) 20) 19) 3) (exceptions-are s) (sound-header s))

    by_number : {a : Answer} {counts' : List ℕ} {money' : List ℤ} (n : ℕ) → decided book (opening o) ≡ n → a ≡ answered n book (opening o)
        → Holds counts' money' (rows_of (kept n book (opening o))) → Answered counts money (opening o) a counts' money'
    by_number {a} {counts'} {money'} n e same h = record {
      answers = same ∙ ap (λ k. answered k book (opening o)) (sym e);
      memory = subst (λ k. Holds counts' money' (rows_of (kept k book (opening o)))) (sym e) h;
    }

    pub answered-shut : shut_at counts ≡ false → Answered counts money (opening o) (refused 3) counts money
    answered-shut e = by_number 3 (decides ∙ rw e) refl (sound-holds s)

    module _ (shut : shut_at counts ≡ true) where
      pub answered-off : works_at counts o.day ≡ false → Answered counts money (opening o) (refused 19) counts money
      answered-off e = by_number 19 (decides ∙ rw (shut, e)) refl (sound-holds s)

      module _ (works : works_at counts o.day ≡ true) where
        pub answered-not-next : next_at counts o.day ≡ false → Answered counts money (opening o) (answer_of (Err (not_next_as (expected_at counts)))) counts money
        answered-not-next e =
            by_number 20 (decides ∙ rw (shut, works, e)) (not-next-answers (expected_at counts) ∙ ap expecting expected-is) (sound-holds s)

        module _ (next : next_at counts o.day ≡ true) where
          pub answered-unknown : listing_at.known ≡ false → Answered counts money (opening o) (refused 21) counts money
          answered-unknown e = by_number 21 (decides ∙ rw (shut, works, next, e)) refl (sound-holds s)

          -- ---- what is left
          module _ {counts' : List ℕ} {money' : List ℤ} (known : listing_at.known ≡ true)
              (p : Turns counts money counts' money' (relisted_rows listing_at.codes o.rates o.margins)) where
            left : Holds (with_header counts' (open_header o.day (header_at counts))) money' (rows_of (opened book o))
            left =
                let is = ap (λ e. listing (is_working e) o.day) (exceptions-are s) in
                let rows : Listing → Rows = λ l. relisted_rows l.codes o.rates o.margins (rows_of book) in
                let h = open_header o.day (header_at counts) in
                let a = p (rows_of book) (sound-whole s) in
                subst (Holds (with_header counts' h) money')
                (ap₂ (λ (l : Listing) (x : Header). with_header_row (rows l) (open_header o.day x)) is (sound-header s)
                ∙ open-rows (sound-kept s) o (sym (ap (λ (l : Listing). l.known) is) ∙ known))
                (put-header (rows listing_at) a.shaped a.holds h)

            pub answered-open : Answered counts money (opening o) done (with_header counts' (open_header o.day (header_at counts))) money'
            unfolding after
            answered-open = by_number 0 (decides ∙ rw (shut, works, next, known)) refl left
