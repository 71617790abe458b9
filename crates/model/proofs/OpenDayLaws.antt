-- The day of an open: what the number that the open is answered tells of it, and the day that is expected.
use Rattle.std.specs.Prelude.{◌≡◌, Bool, not, cond, ◌&&◌, ◌||◌, List, [], ◌∷◌, ◌⊎◌, ℕ, zero, suc, ◌+◌, ◌-◌, ◌≤◌, ◌<◌, eqb, ltb, Result, Ok, Err, Option, Some, None}
use Rattle.std.proofs.Math.Path.{refl, subst}
use Rattle.std.proofs.Common.{sym, ap, ap₂, ◌∙◌, inl, inr, arith, le-ltb, eqb-true, ne_eqb}
use Rattle.std.proofs.Math.Bool.{true, false}
use Rattle.std.proofs.lemmas.Bool.{eqb-false}
use Rattle.std.proofs.Math.Dec.{T}
use Rattle.lists.specs.Has.{has}
use Rattle.lists.specs.HasLaws.{by_test, clash, or-skip}
use Rattle.days.specs.Days.{days, is_on}
use Rattle.days.specs.DayLaws.{first-of, first-misses, first-is}
use Rattle.calendar.specs.Listing.{listing}
use Rattle.calendar.specs.ListingLaws.{known-settles, unknown-settles}
use Rattle.calendar.specs.CodeLaws.{settles-later}
use Rattle.ranges.specs.Ranges as ranges
use Rattle.funds.specs.Funds as funds
use Rattle.funds.specs.declared.Funds.{Funds}
use Rattle.funds.specs.declared.PaymentError.{PaymentError}
use Rattle.funds.specs.declared.PaymentError.TheVariants.{InDefault, TooMuch, Full}
use Rattle.records.specs.Records.{Entry}
use Rattle.model.specs.Book.{Book, Point, unstarted, unopened, unsettled, settled_today, ended, working}
use Rattle.model.specs.Calls.{Call, start, enrol, pay_in, pay_out, release, set_special, set_limits, opening, trade, quote, settle, refresh, close, unknown, Opening, call_of}
use Rattle.model.specs.Refusals.{needs, first_of, is_shut, is_first, expected, is_next, ranged, tests, refusal}
use Rattle.model.specs.Answers.{called, refused, expecting, refusing, answer, refusal_of}
use Rattle.model.specs.Promises.{NextDay, RefusedKept, InTurn, DayTold}
use Rattle.model.specs.Kept.{is_dated, Listed}
use Rattle.model.specs.RefusalLaws.{refused-same}
use Rattle.model.proofs.ListedLaws.{on-is}

-- the first test, by whether a record is in range
abbrev range_test : Bool → ℕ
range_test t = ranges.refusal_of (cond t (Ok tt) (Err (record {})))

-- ---- the day expected
-- it is the only next working day
pub next-is : (b : Book) (d : ℕ) → NextDay b d → expected b ≡ Some d
next-is b d n =
    first-is (working b) (days - (b.today.day + 1)) (b.today.day + 1) d
    (omega (arith, n.later)) (omega (arith, n.later, n.inside)) n.works (λ k h l. n.first k (omega arith) l)

first-unopened : (p : Point) → is_first p ≡ true → p ≡ unopened
first-unopened unstarted e = clash e refl
first-unopened unopened e = refl
first-unopened unsettled e = clash e refl
first-unopened settled_today e = clash e refl
first-unopened ended e = clash e refl

later-ended : (p : Point) → is_shut p ≡ true → is_first p ≡ false → p ≡ ended
later-ended unstarted s e = clash s refl
later-ended unopened s e = clash refl e
later-ended unsettled s e = clash s refl
later-ended settled_today s e = clash s refl
later-ended ended s e = refl

module _ (b : Book) (closed : b.today.point ≡ ended) where
  found-next : (d : ℕ) → expected b ≡ Some d → NextDay b d
  found-next d q =
      let f = first-of (working b) (days - (b.today.day + 1)) (b.today.day + 1) d q in
      let late = f.from in
      let most = f.below in
      record {
        closed = closed;
        later = omega arith;
        inside = omega arith;
        works = f.works;
        first = λ k h l. f.skips k (omega arith) l;
      }

  -- there is one: the months listed on the day closed settle after it
  next-found : Listed b → (d : ℕ) × (expected b ≡ Some d)
  next-found i = go (expected b) refl
    where
      go : (a : Option ℕ) → expected b ≡ a → (d : ℕ) × (expected b ≡ Some d)
      go (Some d) q = (d, q)
      go None q =
          let l = settles-later (working b) b.today.day (i.known (ap is_dated closed)) in
          let after = l.1.0 in
          let below = l.1.1.0 in
          clash l.1.1.1 (first-misses (working b) (days - (b.today.day + 1)) (b.today.day + 1) q l.0 (omega arith) (omega arith))

-- ---- what the tests tell of a day
module _ (b : Book) (day : ℕ) (shut : is_shut b.today.point ≡ true) where
  in-turn : is_next b day ≡ true → InTurn b day
  in-turn x = by_test (is_first b.today.point)
      (λ f. inl (first-unopened b.today.point f))
      (λ f. inr (found-next b (later-ended b.today.point shut f) day (on-is day (expected b) (or-skip (is_first b.today.point) (is_on day (expected b)) f x))))

  out-of-turn : Listed b → is_next b day ≡ false → (d : ℕ) × (NextDay b d × (day ≡ d → ⊥))
  out-of-turn i x = by_test (is_first b.today.point)
      (λ f. clash (ap (λ t. t || is_on day (expected b)) f) x)
      (λ f. let ended = later-ended b.today.point shut f in
      let n = next-found b ended i in
      (n.0, (found-next b ended n.0 n.1, eqb-false day n.0 (sym (ap₂ (λ t a. t || is_on day a) f n.1) ∙ x))))

module _ (b : Book) (i : Listed b) (day : ℕ) where
  -- 2 and 3 tell nothing of the day
  other-told : (n : ℕ) → 0 < n → n < 4 → has n (0 ∷ 2 ∷ 3 ∷ 19 ∷ 20 ∷ 21 ∷ []) ≡ true → DayTold b day n
  other-told n h l i = record {
    off = λ e. absurd (omega arith);
    not-next = λ e. absurd (omega arith);
    unsettled = λ e. absurd (omega arith);
    none = λ e. absurd (omega arith);
    only = i;
  }

  told : (r s t u v : Bool) → is_shut b.today.point ≡ s → working b day ≡ t → is_next b day ≡ u → (listing (working b) day).known ≡ v
      → DayTold b day (first_of (range_test r ∷ needs s 3 ∷ needs t 19 ∷ needs u 20 ∷ needs v 21 ∷ []))
  unfolding first_of has
  told false s t u v shut works next known = other-told 2 (omega arith) (omega arith) refl
  told true false t u v shut works next known = other-told 3 (omega arith) (omega arith) refl
  told true true false u v shut works next known = record {
    off = λ e. works;
    not-next = λ e. absurd (omega arith);
    unsettled = λ e. absurd (omega arith);
    none = λ e. absurd (omega arith);
    only = refl;
  }
  told true true true false v shut works next known = record {
    off = λ e. absurd (omega arith);
    not-next = λ e. (works, out-of-turn b day shut i next);
    unsettled = λ e. absurd (omega arith);
    none = λ e. absurd (omega arith);
    only = refl;
  }
  told true true true true false shut works next known = record {
    off = λ e. absurd (omega arith);
    not-next = λ e. absurd (omega arith);
    unsettled = λ e. (works, (in-turn b day shut next, unknown-settles (working b) day known));
    none = λ e. absurd (omega arith);
    only = refl;
  }
  told true true true true true shut works next known = record {
    off = λ e. absurd (omega arith);
    not-next = λ e. absurd (omega arith);
    unsettled = λ e. absurd (omega arith);
    none = λ e. (works, (in-turn b day shut next, λ m l k. known-settles (working b) day m known l k));
    only = refl;
  }

-- ---- by the record
pub days-told : (b : Book) → Listed b → (e : Entry) (o : Opening) → call_of e ≡ opening o → DayTold b o.day (refusal b e)
unfolding refusal
days-told b i e o q =
    subst (λ c. DayTold b o.day (first_of (ranged e ∷ tests b c))) (sym q)
    (told b i o.day (ranges.in_range e.kind e.fields e.exceptions) _ _ _ _ refl refl refl refl)

-- ---- the numbers of all other calls: not 19 to 21, and not 4
abbrev elsewhere : ℕ → Bool
elsewhere n = (ltb n 19 || ltb 21 n) && not (eqb n 4)

abbrev Elsewhere : List ℕ → Type 0
Elsewhere [] = Unit {0}
Elsewhere (n ∷ l) = T (elsewhere n) × Elsewhere l

first-elsewhere : (l : List ℕ) → Elsewhere l → T (elsewhere (first_of l))
unfolding first_of
first-elsewhere [] f = tt
first-elsewhere (zero ∷ l) f = first-elsewhere l f.1
first-elsewhere (suc n ∷ l) f = f.0

test-elsewhere : (t : Bool) (n : ℕ) → T (elsewhere n) → T (elsewhere (needs t n))
test-elsewhere true n h = tt
test-elsewhere false n h = h

payment-elsewhere : (p : Result Funds PaymentError) → T (elsewhere (funds.refusal_of p))
payment-elsewhere (Ok f) = tt
payment-elsewhere (Err InDefault) = tt
payment-elsewhere (Err TooMuch) = tt
payment-elsewhere (Err Full) = tt

range-elsewhere : (t : Bool) → T (elsewhere (range_test t))
range-elsewhere true = tt
range-elsewhere false = tt

-- a call is an open, or its tests have such numbers
tests-elsewhere : (b : Book) (c : Call) → ((o : Opening) × (c ≡ opening o)) ⊎ Elsewhere (tests b c)
tests-elsewhere b (start s) = inr (search test-elsewhere)
tests-elsewhere b (enrol n l) = inr (search test-elsewhere)
tests-elsewhere b (pay_in n x) = inr (search (test-elsewhere, payment-elsewhere))
tests-elsewhere b (pay_out n x) = inr (search (test-elsewhere, payment-elsewhere))
tests-elsewhere b (release n x) = inr (search (test-elsewhere, payment-elsewhere))
tests-elsewhere b (set_special n x) = inr (search test-elsewhere)
tests-elsewhere b (set_limits n l) = inr (search test-elsewhere)
tests-elsewhere b (opening o) = inl (o, refl)
tests-elsewhere b (trade t) = inr (search test-elsewhere)
tests-elsewhere b (quote q) = inr (search test-elsewhere)
tests-elsewhere b settle = inr (search test-elsewhere)
tests-elsewhere b refresh = inr (search test-elsewhere)
tests-elsewhere b (close final) = inr (search test-elsewhere)
tests-elsewhere b unknown = inr (search test-elsewhere)

module _ (b : Book) (e : Entry) where
  refusal-elsewhere : Elsewhere (tests b (call_of e)) → T (elsewhere (refusal b e))
  unfolding refusal
  refusal-elsewhere f =
      first-elsewhere (ranged e ∷ tests b (call_of e)) (range-elsewhere (ranges.in_range e.kind e.fields e.exceptions), f)

  pub opens-only : 19 ≤ refusal b e → refusal b e ≤ 21 → (o : Opening) × (call_of e ≡ opening o)
  opens-only h l = go (tests-elsewhere b (call_of e))
    where
      go : ((o : Opening) × (call_of e ≡ opening o)) ⊎ Elsewhere (tests b (call_of e)) → (o : Opening) × (call_of e ≡ opening o)
      go (inl o) = o
      go (inr f) = absurd (rw (le-ltb (refusal b e) 19 h, le-ltb 21 (refusal b e) l) at (refusal-elsewhere f))

  pub never-four : Listed b → refusal b e ≡ 4 → ⊥
  unfolding has
  never-four i q = go (tests-elsewhere b (call_of e))
    where
      go : ((o : Opening) × (call_of e ≡ opening o)) ⊎ Elsewhere (tests b (call_of e)) → ⊥
      go (inl o) = clash (subst (λ n. has n (0 ∷ 2 ∷ 3 ∷ 19 ∷ 20 ∷ 21 ∷ []) ≡ true) q (days-told b i e o.0 o.1).only) refl
      go (inr f) = subst (λ n. T (elsewhere n)) q (refusal-elsewhere f)

-- ---- a refused call
-- of any other call its number says all
pub plainly : (b : Book) (c : Call) → ((o : Opening) → c ≡ opening o → ⊥) → (n : ℕ) → first_of (tests b c) ≡ n → refusing b n ≡ refused n
plainly b c other n e = rw (ne_eqb n 20 (not-twenty (tests-elsewhere b c)))
  where
    not-twenty : ((o : Opening) × (c ≡ opening o)) ⊎ Elsewhere (tests b c) → n ≡ 20 → ⊥
    not-twenty (inl o) q = other o.0 o.1
    not-twenty (inr f) q = subst (λ k. T (elsewhere k)) (e ∙ q) (first-elsewhere (tests b c) f)

expecting-number : (a : Option ℕ) → (refusal_of (expecting a)).number ≡ 20
expecting-number (Some d) = refl
expecting-number None = refl

pub refusing-number : (b : Book) (n : ℕ) → (refusal_of (refusing b n)).number ≡ n
refusing-number b n = by_test (eqb n 20) (λ e. rw e (expecting-number (expected b) ∙ sym (eqb-true n 20 e))) (λ e. rw e)

module _ (b : Book) (i : Listed b) (e : Entry) (k : ℕ) (r : refusal b e ≡ suc k) where
  next-told : suc k ≡ 20 → (d : ℕ) × NextDay b d
  next-told q =
      let twenty : refusal b e ≡ 20 = r ∙ q in
      let o = opens-only b e (omega (arith, twenty)) (omega (arith, twenty)) in
      let d = ((days-told b i e o.0 o.1).not-next twenty).1 in
      (d.0, d.1.0)

  pub refused-kept : RefusedKept b (called b e) (answer b e) (suc k)
  refused-kept =
      let same = refused-same b e k r in
      let says = same.1 in
      record {
        stays = same.0;
        number = ap (λ a. (refusal_of a).number) says ∙ refusing-number b (suc k);
        alone = λ h. ap (λ a. (refusal_of a).values) says ∙ rw (ne_eqb (suc k) 20 h);
        expects = λ q. let n = next-told q in (n.0, (ap (λ a. (refusal_of a).values) says ∙ rw (q, next-is b n.0 n.1), n.1));
      }
