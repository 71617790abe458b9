use Rattle.std.specs.Prelude.{Option}
use mathlib.Core.Path.{◌≡◌, sym, ap, ap₂, ◌∙◌}
use mathlib.Core.Bool.{true, ◌||◌}
use mathlib.Core.List.{List}
use Prim.Native.Nat.{ℕ, ◌+◌, ◌-◌, ◌≤◌}
use native.Mathlib.Omega.{arith}
use borrow.Author.Tests.{not-true, not-false}
use lib.Dec.{eqb}
use Rattle.std.proofs.lemmas.Result.{err_from_is_err_and}
use Rattle.refusals.specs.declared.Refusal.TheVariants.{NoSettlementDay}
use Rattle.opening.specs.declared.dates.OpenError.TheVariants.{Refused}
use Rattle.lists.specs.Parts.{part, part-width}
use Rattle.days.specs.Days.{rising, is_working, next_working, is_on}
use Rattle.calendar.specs.Listing.{listing, known_codes}
use Rattle.calendar.specs.ListingLaws.{codes-known, codes-unknown}
use Rattle.memory.specs.declared.header_row.Header.{Header}
use Rattle.standing.specs.SoundLaws.{exceptions_of, sound-long, sound-members, sound-listed, sound-exceptions, exceptions-rise}
use Rattle.opening.specs.Opens.{not_next_as}
use Rattle.opening.specs.OpenLaws.{shut_at, works_at, expected_at, next_at, last-day, answered-shut, answered-off, answered-not-next, answered-unknown, answered-open}
use Rattle.opening.proofs.open_day.Goals as goal
use Rattle.opening.proofs.open_day.Goals.{After-is_next, After-is_shut, After-is_working, After-listed_on, After-load_header-h, After-next_working-expected, Else-not-is_next, Else-not-is_shut, Else-not-is_working, Start}

-- ---- from a place back to the one before it that is asked for
abbrev start : After-load_header-h → Start
start c = (goal.at.After-load_header-h c).Start

abbrev else1 : After-is_working → Else-not-is_shut
else1 c = (goal.at.After-is_working c).Else-not-is_shut

abbrev else2 : After-next_working-expected → Else-not-is_working
else2 c = (goal.at.After-next_working-expected c).Else-not-is_working

abbrev header1 : Else-not-is_shut → After-load_header-h
header1 c = (goal.at.Else-not-is_shut c).After-load_header-h

abbrev header2 : Else-not-is_working → After-load_header-h
header2 c = header1 (else1 (goal.at.Else-not-is_working c).After-is_working)

abbrev header3 : Else-not-is_next → After-load_header-h
header3 c = header2 (else2 (goal.at.Else-not-is_next c).After-next_working-expected)

abbrev memory : After-load_header-h → List ℕ
memory c = (start c).args.counts.now

abbrev asked : After-load_header-h → ℕ
asked c = (start c).args.day

-- ---- what the tests see of the memory
few : (c : After-load_header-h) → c.load_header-h.result.exceptions ≤ 400
few c = rw c.load_header-h.ensures (sound-exceptions (start c).requires)

lent : (c : After-load_header-h) → part 10 (10 + c.load_header-h.result.exceptions - 10) (memory c) ≡ exceptions_of (memory c)
lent c =
    ap (λ n. part 10 n (memory c))
    (part-width 10 c.load_header-h.result.exceptions ∙ ap (λ (x : Header). x.exceptions) c.load_header-h.ensures)

rises : (c : After-load_header-h) → rising (part 10 (10 + c.load_header-h.result.exceptions - 10) (memory c)) ≡ true
rises c = ap rising (lent c) ∙ exceptions-rise (start c).requires

shut-is : (c : After-is_shut) → c.is_shut.result ≡ shut_at (memory (goal.at.After-is_shut c).After-load_header-h)
shut-is c = c.is_shut.ensures ∙ ap (λ (x : Header). eqb x.point 1 || eqb x.point 4) c.load_header-h.ensures

works-is : (c : After-is_working) → let h = header1 (else1 c) in c.is_working.result ≡ works_at (memory h) (asked h)
works-is c = let h = header1 (else1 c) in c.is_working.ensures ∙ ap (λ e. is_working e (asked h)) (lent h)

expected-is : (c : After-next_working-expected) → c.next_working-expected.result ≡ expected_at (memory (header2 (else2 c)))
expected-is c =
    let h = header2 (else2 c) in
    c.next_working-expected.ensures ∙ ap₂ (λ e (x : Header). next_working (is_working e) (x.day + 1)) (lent h) h.load_header-h.ensures

next-is : (c : After-is_next) → let h = header2 (else2 (goal.at.After-is_next c).After-next_working-expected) in c.is_next.result ≡ next_at (memory h) (asked h)
next-is c =
    let h = header2 (else2 (goal.at.After-is_next c).After-next_working-expected) in
    c.is_next.ensures ∙ ap₂ (λ (x : Header) (a : Option ℕ). eqb x.point 1 || is_on (asked h) a) h.load_header-h.ensures (expected-is (goal.at.After-is_next c).After-next_working-expected)

listing-is : (c : After-listed_on) → let h = header3 (goal.at.After-listed_on c).Else-not-is_next in c.listed_on.result ≡ known_codes (listing (works_at (memory h)) (asked h))
listing-is c = let h = header3 (goal.at.After-listed_on c).Else-not-is_next in c.listed_on.ensures ∙ ap (λ e. known_codes (listing (is_working e) (asked h))) (lent h)

-- ---- a test that was passed
shut : (c : Else-not-is_shut) → shut_at (memory (header1 c)) ≡ true
shut c = sym (shut-is (goal.at.Else-not-is_shut c).After-is_shut) ∙ not-false _ c.if-not-is_shut.false-raw

works : (c : Else-not-is_working) → let h = header2 c in works_at (memory h) (asked h) ≡ true
works c = sym (works-is (goal.at.Else-not-is_working c).After-is_working) ∙ not-false _ c.if-not-is_working.false-raw

next : (c : Else-not-is_next) → let h = header3 c in next_at (memory h) (asked h) ≡ true
next c = sym (next-is (goal.at.Else-not-is_next c).After-is_next) ∙ not-false _ c.if-not-is_next.false-raw

pub load_header-h-requires : goal.load_header-h-requires
load_header-h-requires c = (sound-long c.requires).counts

pub returns-then-not-is_shut : goal.returns-then-not-is_shut
returns-then-not-is_shut c = answered-shut (start (goal.at.returns-then-not-is_shut c).After-load_header-h).requires _ (sym (shut-is (goal.at.returns-then-not-is_shut c).After-is_shut) ∙ not-true _ c.if-not-is_shut.true-raw)

pub overflow_add-exceptions : goal.overflow_add-exceptions
overflow_add-exceptions c = omega (arith, few (header1 c))

pub is_working-requires : goal.is_working-requires
is_working-requires c = rises (header1 (goal.at.is_working-requires c).Else-not-is_shut)

pub returns-then-not-is_working : goal.returns-then-not-is_working
returns-then-not-is_working c =
    let e = else1 (goal.at.returns-then-not-is_working c).After-is_working in
    answered-off (start (header1 e)).requires _ (shut e) (sym (works-is (goal.at.returns-then-not-is_working c).After-is_working) ∙ not-true _ c.if-not-is_working.true-raw)

pub overflow_add-h : goal.overflow_add-h
overflow_add-h c =
    let h = header2 (goal.at.overflow_add-h c).Else-not-is_working in
    omega (arith, ap (λ (x : Header). x.day) h.load_header-h.ensures, last-day (start h).requires)

pub next_working-expected-requires : goal.next_working-expected-requires
next_working-expected-requires c = rises (header2 (goal.at.next_working-expected-requires c).Else-not-is_working)

pub returns-then-not-is_next : goal.returns-then-not-is_next
returns-then-not-is_next c =
    let e = else2 (goal.at.returns-then-not-is_next c).After-next_working-expected in
    rw (c.not_next.ensures ∙ ap not_next_as (expected-is (goal.at.returns-then-not-is_next c).After-next_working-expected))
    (answered-not-next (start (header2 e)).requires _ (shut (else1 (goal.at.Else-not-is_working e).After-is_working)) (works e) (sym (next-is (goal.at.returns-then-not-is_next c).After-is_next) ∙ not-true _ c.if-not-is_next.true-raw))

pub listed_on-requires : goal.listed_on-requires
listed_on-requires c = rises (header3 c)

pub returns-in_err-codes : goal.returns-in_err-codes
returns-in_err-codes c =
    let e2 = else2 (goal.at.returns-in_err-codes c).After-next_working-expected in
    let told = c.in_err-codes.ensures in
    let p = err_from_is_err_and c.from_residual.result c.from_residual.ensures.1 in
    let said : c.in_err-codes.field-0.0 ≡ Refused NoSettlementDay = cc (rw told.ok_part at told.value) in
    rw (p.1, p.2, said)
    (answered-unknown (start (header2 e2)).requires _ (shut (else1 (goal.at.Else-not-is_working e2).After-is_working)) (works e2) (next (goal.at.returns-in_err-codes c).Else-not-is_next)
    (codes-unknown _ (sym (listing-is (goal.at.returns-in_err-codes c).After-listed_on) ∙ told.ok_part)))

pub relist-requires : goal.relist-requires
relist-requires c =
    let s = (start (header3 (goal.at.relist-requires c).Else-not-is_next)).requires in
    (sound-long s, (sound-listed s, sound-members s))

pub store_header-requires : goal.store_header-requires
store_header-requires c =
    let s = (start (header3 (goal.at.store_header-requires c).Else-not-is_next)).requires in
    c.relist.auto.counts ∙ (sound-long s).counts

pub returns : goal.returns
returns c =
    let e2 = else2 (goal.at.returns c).After-next_working-expected in
    let h = header2 e2 in
    let known = codes-known _ _ (sym (listing-is (goal.at.returns c).After-listed_on) ∙ c.in_ok-codes.ensures.ok_part) in
    rw (c.store_header.ensures, c.open_header.ensures, h.load_header-h.ensures)
    (answered-open (start h).requires _ (shut (else1 (goal.at.Else-not-is_working e2).After-is_working)) (works e2) (next (goal.at.returns c).Else-not-is_next)
    known.0
    (rw (sym known.1) at c.relist.ensures))
