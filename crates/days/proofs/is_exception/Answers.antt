-- A day before the first exception or past the last is none of them. Exceptions that rise are in order, so the search finds any other day where it is among them, and
-- those that it leaves out are later.
use Rattle.std.proofs.Common.{◌≡◌, refl, sym, ap, ◌∙◌, ℕ, ◌≤◌, ◌<◌, ◌-◌, List, [], ◌∷◌, Some, None, Result, Ok, Err, true, false, length, get_or, subst, arith}
use Rattle.std.specs.List.{slice_get}
use Rattle.std.specs.Option.{option_copied}
use Rattle.std.proofs.lemmas.Option.{slice_get_within, get_or_from_slice_get, slice_get-get_or}
use Rattle.std.proofs.Math.Decide.{dec_lt}
use Rattle.std.specs.Result.{is_ok}
use Rattle.std.specs.List.Sorted.{IsBinarySearchResult}
use Rattle.std.specs.Ordering.{nat_cmp}
use Rattle.std.proofs.lemmas.List.Sorted.{searched}
use Rattle.lists.specs.Has.{has}
use Rattle.lists.specs.Keyed.{has-at, has-nowhere}
use Rattle.days.specs.Days.{is_exception, rising}
use Rattle.days.specs.DayLaws.{rising-sorted, rising-take, exception-has, exception-past, exception-near, on-no-day}
use Rattle.days.proofs.is_exception.Goals as goal
use Rattle.days.proofs.is_exception.Goals.{then-day-first-via-then-day-first, then-day-first-via-else-day-first+then-exceptions-day}

-- those before the place are smaller, and those from it on are larger
apart : (e : List ℕ) (day i : ℕ) → ((k : ℕ) → k < i → get_or e k 0 < day) → ((k : ℕ) → i ≤ k → k < length e → day < get_or e k 0)
    → (k : ℕ) → k < length e → get_or e k 0 ≡ day → ⊥
apart e day i below above k inside same = go (dec_lt k i)
  where
    go : Dec (k < i) → ⊥
    go (yes u) = omega (arith, below k u)
    go (no u) = omega (arith, above k (omega arith) inside)

tells : (e : List ℕ) (day : ℕ) (r : Result ℕ ℕ) → rising e ≡ true → IsBinarySearchResult (λ y. nat_cmp y day) e r → is_ok r ≡ is_exception e day
tells e day (Ok i) rises found =
    let s = searched e day (Ok i) found (rising-sorted e rises) in
    sym (exception-has e day ∙ subst (λ d. has d e ≡ true) s.1 (has-at e i s.0))
tells e day (Err i) rises found =
    let s = searched e day (Err i) found (rising-sorted e rises) in
    sym (exception-has e day ∙ has-nowhere e day (apart e day i s.1 s.2))

before : (e : List ℕ) (d f : ℕ) → rising e ≡ true → slice_get e 0 ≡ Some f → d < f → is_exception e d ≡ false
unfolding is_exception
before e d f rises h under =
    let first = get_or_from_slice_get e 0 f 0 h in
    sym (exception-near e d 0 (λ k a b. omega (arith, first, under, rising-sorted e rises 0 k (omega arith) b)))

none : (e : List ℕ) (d : ℕ) → slice_get e 0 ≡ None → is_exception e d ≡ false
unfolding is_exception
none [] d h = refl
none (x ∷ e) d h = on-no-day (sym (slice_get-get_or (x ∷ e) 0 0 (omega arith)) ∙ h)

pub returns-in_default : goal.returns-in_default
returns-in_default c = sym (none _ _ (sym c.first.ensures.value ∙ ap option_copied c.in_default.is))

past : (e : List ℕ) (d f : ℕ) → rising e ≡ true → slice_get e 0 ≡ Some f → get_or e (length e - 1) 0 < d → is_exception e d ≡ false
past e d f rises h over = exception-past e d (λ n. omega (arith, slice_get_within e 0 f h)) rises over

pub returns-then-day-first : goal.returns-then-day-first
returns-then-day-first c =
    let first = sym c.first.ensures.value ∙ ap option_copied c.in-Some.is in
    elim c.then-day-first.branch [
      | then-day-first-via-then-day-first w ↦ sym (before _ _ _ c.requires first w.if-day-first.true)
      | then-day-first-via-else-day-first+then-exceptions-day w ↦ sym (past _ _ _ c.requires first w.if-exceptions-day.true)
    ]

pub returns : goal.returns
returns c =
    c.is_ok.ensures.value ∙ tells _ _ _ (rising-take c.reach-near.result c.args.exceptions.now c.requires) c.binary_search.ensures.position
    ∙ exception-near c.args.exceptions.now c.args.day c.reach-near.result c.reach-near.ensures.behind
