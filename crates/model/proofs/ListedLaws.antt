-- Which codes a book lists, by the calendar; that a listed code stays until its last trading day is closed, and is never listed again; and
-- what an accepted open does.
use Rattle.std.specs.Prelude.{◌≡◌, Bool, true, false, not, cond, ◌&&◌, List, [], ◌∷◌, ℕ, ◌+◌, ◌-◌, ◌≤◌, ◌<◌, ℤ, pos, length, Option, Some, None}
use Rattle.std.proofs.Math.Path.{refl}
use Rattle.std.proofs.Common.{sym, ◌∙◌, ap, subst, arith, ltb-true, eqb-true, lt-ltb}
use Rattle.std.proofs.Math.Bool.{and-eq-true_iff}
use Rattle.std.proofs.lemmas.Bool.{eqb-false, not-true}
use Rattle.lists.specs.Has.{has, Distinct}
use Rattle.lists.specs.HasLaws.{by_test, clash, when_true, when_false, cond_same, or-skip, those-has, distinct-those}
use Rattle.lists.specs.Those.{those, those-fewer}
use Rattle.days.specs.Days.{is_on}
use Rattle.days.specs.DayLaws.{first-of}
use Rattle.months.specs.Months.{last_trading_of}
use Rattle.calendar.specs.Listing.{listing}
use Rattle.records.specs.Records.{Entry}
use Rattle.positions.specs.Deals.{flat}
use Rattle.model.specs.Book.{Book, Point, unstarted, unopened, unsettled, settled_today, ended, no_terms, new, is_listed, working}
use Rattle.model.specs.Calls.{Call, start, enrol, pay_in, pay_out, release, set_special, set_limits, opening, trade, quote, settle, refresh, close, unknown, Opening, call_of}
use Rattle.model.specs.Effects.{is_ending, codes_on, after}
use Rattle.model.specs.Refusals.{is_started, is_shut, is_open, is_settled, expected, is_next, tests, refusal}
use Rattle.model.specs.Answers.{called}
use Rattle.model.specs.History.{Step, step, run, log, has_ended}
use Rattle.model.specs.Bounds.{closed_days}
use Rattle.model.specs.Promises.{OpenKept}
use Rattle.model.specs.Kept.{Framed, codes_at, is_dated, Listed}
use Rattle.calendar.specs.CodeLaws.{is_past, past-none, past-later, code_below, codes-distinct, codes-length, code_runs, code-lasts, code_stays}
use Rattle.model.proofs.StepLaws.{Passed, needed, accepted-by, induct-tests}
use Rattle.model.specs.RefusalLaws.{accepted-called}

-- ---- what the tests on the point tell
fresh-codes : (w : ℕ → Bool) (day : ℕ) (p : Point) → not (is_started p) ≡ true → codes_at w p day ≡ []
fresh-codes w day unstarted e = refl
fresh-codes w day unopened e = clash e refl
fresh-codes w day unsettled e = clash e refl
fresh-codes w day settled_today e = clash e refl
fresh-codes w day ended e = clash e refl

pub open-codes : (w : ℕ → Bool) (day : ℕ) (p : Point) → is_open p ≡ true → codes_at w p day ≡ (listing w day).codes
open-codes w day unstarted e = clash e refl
open-codes w day unopened e = clash e refl
open-codes w day unsettled e = refl
open-codes w day settled_today e = refl
open-codes w day ended e = clash e refl

pub open-dated : (p : Point) → is_open p ≡ true → is_dated p ≡ true
open-dated unstarted e = clash e refl
open-dated unopened e = clash e refl
open-dated unsettled e = refl
open-dated settled_today e = refl
open-dated ended e = clash e refl

pub settled-open : (p : Point) → is_settled p ≡ true → is_open p ≡ true
settled-open unstarted e = clash e refl
settled-open unopened e = clash e refl
settled-open unsettled e = clash e refl
settled-open settled_today e = refl
settled-open ended e = clash e refl

pub open-closed : (day : ℕ) (p : Point) → is_open p ≡ true → closed_days p day ≡ day
open-closed day unstarted e = clash e refl
open-closed day unopened e = clash e refl
open-closed day unsettled e = refl
open-closed day settled_today e = refl
open-closed day ended e = clash e refl

pub fresh-closed : (day : ℕ) (p : Point) → not (is_started p) ≡ true → closed_days p day ≡ 0
fresh-closed day unstarted e = refl
fresh-closed day unopened e = refl
fresh-closed day unsettled e = clash e refl
fresh-closed day settled_today e = clash e refl
fresh-closed day ended e = clash e refl

-- ---- a new book, and all calls
pub listed-new : Listed new
unfolding new
listed-new = record { works = λ e. clash e refl; known = λ e. clash e refl; lists = refl }

pub listed-after : (b : Book) (c : Call) → Passed (tests b c) → Listed b → Listed (after b c)
unfolding after
listed-after b (start s) p i = record {
  works = λ e. clash e refl;
  known = λ e. clash e refl;
  lists = i.lists ∙ fresh-codes (working b) b.today.day b.today.point (needed 3 tt p.0);
}
listed-after b (enrol n x) p i = i
listed-after b (pay_in n x) p i = i
listed-after b (pay_out n x) p i = i
listed-after b (release n x) p i = i
listed-after b (set_special n x) p i = i
listed-after b (set_limits n x) p i = i
listed-after b (opening o) p i = record {
  works = λ e. needed 19 tt p.1.0;
  known = λ e. needed 21 tt p.1.1.1.0;
  lists = refl;
}
listed-after b (trade t) p i = i
listed-after b (quote q) p i = i
listed-after b settle p i =
    let o = ((and-eq-true_iff (is_open b.today.point) (not (is_settled b.today.point))).0 (needed 3 tt p.0)).0 in record {
      works = λ e. i.works (open-dated b.today.point o);
      known = λ e. i.known (open-dated b.today.point o);
      lists = i.lists ∙ open-codes (working b) b.today.day b.today.point o;
    }
listed-after b refresh p i = i
listed-after b (close final) p i =
    let o = settled-open b.today.point (needed 3 tt p.0) in record {
      works = λ e. i.works (open-dated b.today.point o);
      known = λ e. i.known (open-dated b.today.point o);
      lists = ap (those (λ c. not (is_ending b c))) (i.lists ∙ open-codes (working b) b.today.day b.today.point o);
    }
listed-after b unknown p i = i

-- ---- the codes themselves
module _ (w : ℕ → Bool) (day : ℕ) where
  at-distinct : (p : Point) → (is_dated p ≡ true → (listing w day).known ≡ true) → Distinct (codes_at w p day)
  at-distinct unstarted k = tt
  at-distinct unopened k = tt
  at-distinct unsettled k = codes-distinct w day (k refl)
  at-distinct settled_today k = codes-distinct w day (k refl)
  at-distinct ended k = distinct-those _ _ (codes-distinct w day (k refl))

  at-few : (p : Point) → (is_dated p ≡ true → (listing w day).known ≡ true) → length (codes_at w p day) ≤ 6
  at-few unstarted k = omega arith
  at-few unopened k = omega arith
  at-few unsettled k = omega (arith, codes-length w day (k refl))
  at-few settled_today k = omega (arith, codes-length w day (k refl))
  at-few ended k =
      omega (arith, codes-length w day (k refl), those-fewer (λ c. not (is_on day (last_trading_of w c))) (listing w day).codes)

  -- a code that is listed at some point of the day is one of the day's, and does not end on it once it is closed
  left-of : (c : ℕ) → has c (codes_at w ended day) ≡ true → (has c (listing w day).codes ≡ true) × (is_on day (last_trading_of w c) ≡ false)
  left-of c h = let f = those-has _ c (listing w day).codes h in (f.0, not-true _ f.1)

  at_from : (c : ℕ) (p : Point) → has c (codes_at w p day) ≡ true → (is_dated p ≡ true) × (has c (listing w day).codes ≡ true)
  unfolding has
  at_from c unstarted h = clash h refl
  at_from c unopened h = clash h refl
  at_from c unsettled h = (refl, h)
  at_from c settled_today h = (refl, h)
  at_from c ended h = (refl, (left-of c h).0)

module _ (b : Book) (i : Listed b) where
  pub listed-once : Distinct b.contracts.codes
  listed-once = rw i.lists (at-distinct (working b) b.today.day b.today.point i.known)

  pub listed-few : length b.contracts.codes ≤ 6
  listed-few = rw i.lists (at-few (working b) b.today.day b.today.point i.known)

  pub listed-six : is_open b.today.point ≡ true → length b.contracts.codes ≡ 6
  listed-six o =
      ap length (i.lists ∙ open-codes (working b) b.today.day b.today.point o)
      ∙ codes-length (working b) b.today.day (i.known (open-dated b.today.point o))

  pub listed_below : (c : ℕ) → is_listed b c ≡ true → c < 10000
  listed_below c e =
      let f = at_from (working b) b.today.day c b.today.point (rw i.lists at e) in
      let r = code_runs (working b) b.today.day (i.known f.0) c f.1 in
      subst (λ x. x < 10000) r.code (code_below r.month r.below)

-- ---- a code whose last trading day is closed
abbrev pub has_passed : Book → ℕ → Bool
has_passed b c = is_past (working b) (closed_days b.today.point b.today.day) c

module _ (w : ℕ → Bool) (day c : ℕ) where
  open-unlisted : w day ≡ true → (listing w day).known ≡ true → is_past w day c ≡ true → has c (listing w day).codes ≡ false
  open-unlisted works known past = by_test (has c (listing w day).codes)
      (λ h. let l = code-lasts w day known works c h in absurd (omega (arith, l.1.1, ltb-true l.0 day (rw l.1.0 at past))))
      (λ e. e)

  shut-unlisted : w day ≡ true → (listing w day).known ≡ true → is_past w (day + 1) c ≡ true → has c (codes_at w ended day) ≡ false
  shut-unlisted works known past = by_test (has c (codes_at w ended day))
      (λ h.
      let f = left-of w day c h in
      let l = code-lasts w day known works c f.0 in
      let m = ltb-true l.0 (day + 1) (rw l.1.0 at past) in
      let n = eqb-false day l.0 (rw l.1.0 at f.1) in
      absurd (n (omega (arith, l.1.1))))
      (λ e. e)

  at-unlisted : (p : Point) → (is_dated p ≡ true → w day ≡ true) → (is_dated p ≡ true → (listing w day).known ≡ true)
      → is_past w (closed_days p day) c ≡ true → has c (codes_at w p day) ≡ false
  unfolding has
  at-unlisted unstarted works known past = refl
  at-unlisted unopened works known past = refl
  at-unlisted unsettled works known past = open-unlisted (works refl) (known refl) past
  at-unlisted settled_today works known past = open-unlisted (works refl) (known refl) past
  at-unlisted ended works known past = shut-unlisted (works refl) (known refl) past

pub passed-unlisted : (b : Book) → Listed b → (c : ℕ) → has_passed b c ≡ true → is_listed b c ≡ false
passed-unlisted b i c e = rw i.lists (at-unlisted (working b) b.today.day c b.today.point i.works i.known e)

pub listed-runs : (b : Book) → Listed b → (c : ℕ) → is_listed b c ≡ true → has_passed b c ≡ false
listed-runs b i c e = by_test (has_passed b c) (λ d. clash e (passed-unlisted b i c d)) (λ d. d)

-- ---- an open
pub on-is : (u : ℕ) (a : Option ℕ) → is_on u a ≡ true → a ≡ Some u
on-is u (Some d) e = ap Some (sym (eqb-true u d e))
on-is u None e = clash e refl

module _ (b : Book) (o : Opening) (p : Passed (tests b (opening o))) where
  shut : is_shut b.today.point ≡ true
  shut = needed 3 tt p.0

  -- "later ones: the next working day after the one closed"
  next-day : b.today.point ≡ ended → expected b ≡ Some o.day
  next-day e =
      let n : is_next b o.day ≡ true = needed 20 tt p.1.1.0 in
      on-is o.day (expected b) (rw e at n)

  pub open-later : closed_days b.today.point b.today.day ≤ o.day
  open-later = go b.today.point refl shut
    where
      go : (q : Point) → b.today.point ≡ q → is_shut q ≡ true → closed_days q b.today.day ≤ o.day
      go unstarted e s = omega arith
      go unopened e s = omega arith
      go unsettled e s = clash s refl
      go settled_today e s = clash s refl
      go ended e s = (first-of (working b) (3653 - (b.today.day + 1)) (b.today.day + 1) o.day (next-day e)).from

  -- what is listed stays
  pub open-keeps : Listed b → (c : ℕ) → is_listed b c ≡ true → has c (codes_on b o.day) ≡ true
  open-keeps i c h = go b.today.point refl shut i.works i.known (rw i.lists at h)
    where
      go : (q : Point) → b.today.point ≡ q → is_shut q ≡ true → (is_dated q ≡ true → working b b.today.day ≡ true)
          → (is_dated q ≡ true → (listing (working b) b.today.day).known ≡ true)
          → has c (codes_at (working b) q b.today.day) ≡ true → has c (codes_on b o.day) ≡ true
      go unstarted e s works known h = clash s refl
      go unopened e s works known h = clash (at_from (working b) b.today.day c unopened h).0 refl
      go unsettled e s works known h = clash s refl
      go settled_today e s works known h = clash s refl
      go ended e s works known h =
          let f = left-of (working b) b.today.day c h in
          let k = needed 21 tt p.1.1.1.0 in
          code_stays (working b) b.today.day o.day c (known refl) k (works refl) (next-day e) f.0 f.1

-- ---- what has passed stays so
pub not-passed : (b : Book) (x : Call) → Passed (tests b x) → (c : ℕ) → has_passed (after b x) c ≡ false → has_passed b c ≡ false
unfolding after
not-passed b (start s) p c e = rw (fresh-closed b.today.day b.today.point (needed 3 tt p.0)) (past-none (working b) c)
not-passed b (enrol n x) p c e = e
not-passed b (pay_in n x) p c e = e
not-passed b (pay_out n x) p c e = e
not-passed b (release n x) p c e = e
not-passed b (set_special n x) p c e = e
not-passed b (set_limits n x) p c e = e
not-passed b (opening o) p c e = past-later (working b) c _ o.day (open-later b o p) e
not-passed b (trade t) p c e = e
not-passed b (quote q) p c e = e
not-passed b settle p c e =
    let o = ((and-eq-true_iff (is_open b.today.point) (not (is_settled b.today.point))).0 (needed 3 tt p.0)).0 in
    rw (open-closed b.today.day b.today.point o) e
not-passed b refresh p c e = e
not-passed b (close final) p c e =
    let o = open-closed b.today.day b.today.point (settled-open b.today.point (needed 3 tt p.0)) in
    rw o (past-later (working b) c b.today.day (b.today.day + 1) (omega arith) e)
not-passed b unknown p c e = e

still-passed : (b : Book) (x : Call) → Passed (tests b x) → (c : ℕ) → has_passed b c ≡ true → has_passed (after b x) c ≡ true
still-passed b x p c h = by_test (has_passed (after b x) c) (λ e. e) (λ e. clash h (not-passed b x p c e))

-- a code that ends has passed once the day is closed
pub ending-passes : (w : ℕ → Bool) (day c : ℕ) → is_on day (last_trading_of w c) ≡ true → is_past w (day + 1) c ≡ true
ending-passes w day c e = rw (on-is day (last_trading_of w c) e) (lt-ltb day (day + 1) (omega arith))

closing-passes : (b : Book) (final : ℤ) (c : ℕ) → is_ending b c ≡ true → has_passed (after b (close final)) c ≡ true
unfolding after
closing-passes b final c e = ending-passes (working b) b.today.day c e

ended-more : (c : ℕ) (b : Book) (l : List Step) (x : Call) → Passed (tests b x) → (has_ended c l ≡ true → has_passed b c ≡ true)
    → has_ended c (step b x ∷ l) ≡ true → has_passed (after b x) c ≡ true
unfolding has_ended
ended-more c b l (start s) p i e = still-passed b (start s) p c (i e)
ended-more c b l (enrol n x) p i e = still-passed b (enrol n x) p c (i e)
ended-more c b l (pay_in n x) p i e = still-passed b (pay_in n x) p c (i e)
ended-more c b l (pay_out n x) p i e = still-passed b (pay_out n x) p c (i e)
ended-more c b l (release n x) p i e = still-passed b (release n x) p c (i e)
ended-more c b l (set_special n x) p i e = still-passed b (set_special n x) p c (i e)
ended-more c b l (set_limits n x) p i e = still-passed b (set_limits n x) p c (i e)
ended-more c b l (opening o) p i e = still-passed b (opening o) p c (i e)
ended-more c b l (trade t) p i e = still-passed b (trade t) p c (i e)
ended-more c b l (quote q) p i e = still-passed b (quote q) p c (i e)
ended-more c b l settle p i e = still-passed b settle p c (i e)
ended-more c b l refresh p i e = still-passed b refresh p c (i e)
ended-more c b l (close final) p i e = by_test (is_listed b c && is_ending b c)
    (λ d. closing-passes b final c ((and-eq-true_iff (is_listed b c) (is_ending b c)).0 d).1)
    (λ d. still-passed b (close final) p c (i (or-skip (is_listed b c && is_ending b c) (has_ended c l) d e)))
ended-more c b l unknown p i e = still-passed b unknown p c (i e)

pub ended-passed : (c : ℕ) (h : List Entry) → has_ended c (log h) ≡ true → has_passed (run h) c ≡ true
unfolding has_ended
ended-passed c = induct-tests (λ b l. has_ended c l ≡ true → has_passed b c ≡ true) (λ e. clash e refl) (ended-more c)

-- ---- an accepted open
open_kept : (b : Book) (o : Opening) → Passed (tests b (opening o)) → Listed b → Framed b → OpenKept b (after b (opening o)) o
unfolding after
open_kept b o p i f = record {
  codes = refl;
  stays = open-keeps b o p i;
  nets = λ n c. by_test (is_listed b c)
      (λ e. ap (λ x. x.net) (when_true (b.accounts.position n c) flat (open-keeps b o p i c e))
      ∙ sym (when_true (b.accounts.position n c).net (pos 0) e))
      (λ e. ap (λ x. x.net) (cond_same (has c (codes_on b o.day)) (f.unlisted n c e))
      ∙ sym (when_false (b.accounts.position n c).net (pos 0) e));
  previous = λ c h. ap (λ x. x.previous) (when_true (cond (is_listed b c) (b.contracts.terms c) _) no_terms h)
      ∙ by_test (is_listed b c) (λ e. rw e) (λ e. rw e);
  margin = λ c h. ap (λ x. x.margin) (when_true (cond (is_listed b c) (b.contracts.terms c) _) no_terms h)
      ∙ by_test (is_listed b c) (λ e. rw e) (λ e. rw e);
}

pub opens : (b : Book) → Listed b → Framed b → (e : Entry) (o : Opening) → refusal b e ≡ 0 → call_of e ≡ opening o → OpenKept b (called b e) o
opens b i f e o r q =
    let p : Passed (tests b (opening o)) = subst (λ x. Passed (tests b x)) q (accepted-by b e r).passed in
    subst (λ x. OpenKept b x o) (sym (accepted-called b e r q)) (open_kept b o p i f)
