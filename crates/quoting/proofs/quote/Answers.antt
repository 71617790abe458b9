-- Each return is one test of the model; what was found before it is handed on from place to place.
use mathlib.Core.Path.{◌≡◌, sym, ap, ap₂, ◌∙◌}
use mathlib.Core.Bool.{true, ◌||◌}
use native.Mathlib.Omega.{arith}
use borrow.Author.Tests.{le-leb, lt-leb, not-true, not-false}
use lib.Dec.{eqb, leb}
use Rattle.std.proofs.lemmas.Result.{err_from_is_err_and}
use Rattle.refusals.specs.declared.Refusal.TheVariants.{NotListed}
use Rattle.whole.specs.Machine.{arg, passed}
use Rattle.tallies.specs.Means.{weighted}
use Rattle.tallies.specs.Tally.{with_quote}
use Rattle.memory.specs.declared.header_row.Header.{Header}
use Rattle.memory.specs.declared.contract_rows.Contract.{Contract}
use Rattle.memory.specs.Layout.{with_contract_counts, with_contract_money}
use Rattle.model.specs.Book.{Book}
use Rattle.model.specs.Calls.{Quote}
use Rattle.model.specs.Refusals.{is_open, in_hours}
use Rattle.standing.specs.Standing.{header_row, view}
use Rattle.standing.specs.StandingLaws.{sound-kept, sound-holds}
use Rattle.standing.specs.SoundLaws.{sound-long, sound-header, sound-listed}
use Rattle.standing.specs.DealLaws.{Stands, with_tally}
use Rattle.hours.specs.Searched.{code-at, code-none}
use Rattle.quoting.specs.Quotes.{has_room, quoted_row}
use Rattle.quoting.specs.QuoteLaws.{shut, unlisted, out-of-hours, too-early, full, done, row_small, contract-in, tally-sound, written}
use Rattle.quoting.proofs.quote.Goals as goal
use Rattle.quoting.proofs.quote.Goals.{After-find_contract, After-has_room, After-is_open, After-load_contract-x, After-load_header-h, After-with_quote-x, Else-not-in_hours, Else-not-is_open, Else-time-h, In_ok-k, Start}

abbrev quotation : Start → Quote
quotation s = record { time = s.args.time; code = s.args.code; side = s.args.side; rate = s.args.rate }

abbrev book : Start → Book
book s = view s.args.counts.now s.args.money.now

-- ---- from a place back to the one before it where something was found
abbrev start : After-load_header-h → Start
start c = (goal.at.After-load_header-h c).Start

abbrev found : In_ok-k → After-find_contract
found c = (goal.at.In_ok-k c).After-find_contract

abbrev before-k : In_ok-k → Else-not-is_open
before-k c = (goal.at.After-find_contract (found c)).Else-not-is_open

abbrev before-hours : Else-not-in_hours → In_ok-k
before-hours c = (goal.at.Else-not-in_hours c).In_ok-k

abbrev before-clock : Else-time-h → Else-not-in_hours
before-clock c = (goal.at.Else-time-h c).Else-not-in_hours

abbrev before-load : After-load_contract-x → Else-time-h
before-load c = (goal.at.After-load_contract-x c).Else-time-h

abbrev start-live : Else-not-is_open → Start
start-live c = start (goal.at.Else-not-is_open c).After-load_header-h

abbrev start-k : In_ok-k → Start
start-k c = start-live (before-k c)

abbrev start-clock : Else-time-h → Start
start-clock c = start-k (before-hours (before-clock c))

-- ---- what was found
header : (c : After-load_header-h) → c.load_header-h.result ≡ header_row (book (start c))
header c = c.load_header-h.ensures ∙ sound-header (start c).requires.0

open_is : (c : After-is_open) → is_open (book (start (goal.at.After-is_open c).After-load_header-h)).today.point ≡ c.is_open.result
open_is c = sym (c.is_open.ensures ∙ ap (λ (x : Header). eqb x.point 2 || eqb x.point 3) (header (goal.at.After-is_open c).After-load_header-h))

live : (c : Else-not-is_open) → is_open (book (start-live c)).today.point ≡ true
live c = open_is (goal.at.Else-not-is_open c).After-is_open ∙ not-false _ c.if-not-is_open.false-raw

row : (c : In_ok-k) → let s = start-k c in Stands (book s).contracts.codes s.args.code c.in_ok-k.k
row c =
    let h = (start-k c).requires.0 in
    code-at (sound-kept h) (sound-holds h) _ _ (sym (found c).find_contract.ensures ∙ c.in_ok-k.ensures.ok_part)

hours : (c : Else-not-in_hours) → in_hours (start-k (before-hours c)).args.time ≡ true
hours c = sym c.in_hours.ensures ∙ not-false _ c.if-not-in_hours.false-raw

clock : (c : Else-time-h) → let s = start-clock c in leb (book s).today.clock s.args.time ≡ true
clock c =
    let s = start-clock c in
    let e = ap (λ (x : Header). x.clock) (header (before-k (before-hours (before-clock c))).before.before) in
    le-leb (book s).today.clock s.args.time (omega (arith, e, c.if-time-h.false))

room : (c : After-has_room) → let s = start-clock (before-load (goal.at.After-has_room c).After-load_contract-x) in
    has_room ((book s).contracts.tally s.args.code) s.args.time s.args.side ≡ c.has_room.result
room c =
    let q = before-load (goal.at.After-has_room c).After-load_contract-x in
    let s = start-clock q in
    sym (c.has_room.ensures
    ∙ ap (λ (x : Contract). has_room x.tally s.args.time s.args.side)
    (c.load_contract-x.ensures ∙ contract-in s.requires.0 (quotation s) (row (before-hours (before-clock q)))))

-- the contract's row with the quote in it
row-after : (c : After-with_quote-x) → with_tally c.load_contract-x.result c.with_quote-x.result ≡ quoted_row c.load_contract-x.result (quotation (start-clock (before-load (goal.at.After-with_quote-x c).After-load_contract-x)))
row-after c =
    let s = start-clock (before-load (goal.at.After-with_quote-x c).After-load_contract-x) in
    ap (with_tally c.load_contract-x.result)
    (c.with_quote-x.ensures
    ∙ ap (λ rate. with_quote c.load_contract-x.result.tally s.args.time s.args.side (weighted 1 rate)) (arg s.requires.1.rate tt).eq)

pub load_header-h-requires : goal.load_header-h-requires
load_header-h-requires c = (sound-long c.requires.0).counts

pub returns-then-not-is_open : goal.returns-then-not-is_open
returns-then-not-is_open c =
    let s = start (goal.at.returns-then-not-is_open c).After-load_header-h in
    shut s.requires.0 (quotation s) (open_is (goal.at.returns-then-not-is_open c).After-is_open ∙ not-true _ c.if-not-is_open.true-raw)

pub find_contract-requires : goal.find_contract-requires
find_contract-requires c =
    let s = (start-live c).requires.0 in
    ((sound-long s).counts, sound-listed s)

pub returns-in_err-k : goal.returns-in_err-k
returns-in_err-k c =
    let s = start-live (goal.at.returns-in_err-k c).Else-not-is_open in
    let h = s.requires.0 in
    let told = c.in_err-k.ensures in
    let p = err_from_is_err_and c.from_residual.result c.from_residual.ensures.1 in
    let said : c.in_err-k.field-0.0 ≡ NotListed = cc (rw told.ok_part at told.value) in
    rw (p.1, p.2, said)
    (unlisted h (quotation s) (live (goal.at.returns-in_err-k c).Else-not-is_open)
    (code-none (sound-kept h) (sound-holds h) s.args.code (sym c.find_contract.ensures ∙ told.ok_part)))

pub returns-then-not-in_hours : goal.returns-then-not-in_hours
returns-then-not-in_hours c =
    let s = start-k (goal.at.returns-then-not-in_hours c).In_ok-k in
    out-of-hours s.requires.0 (quotation s) (live (before-k (goal.at.returns-then-not-in_hours c).In_ok-k)) (row (goal.at.returns-then-not-in_hours c).In_ok-k) (sym c.in_hours.ensures ∙ not-true _ c.if-not-in_hours.true-raw)

pub returns-then-time-h : goal.returns-then-time-h
returns-then-time-h c =
    let p = before-hours (goal.at.returns-then-time-h c).Else-not-in_hours in
    let s = start-k p in
    let e = ap (λ (x : Header). x.clock) (header (goal.at.Else-not-is_open (before-k p)).After-load_header-h) in
    too-early s.requires.0 (quotation s) (live (before-k p)) (row p) (hours (goal.at.returns-then-time-h c).Else-not-in_hours)
    (lt-leb (book s).today.clock s.args.time (omega (arith, e, c.if-time-h.true)))

pub load_contract-x-requires : goal.load_contract-x-requires
load_contract-x-requires c =
    let s = start-clock c in
    (sound-long s.requires.0, row_small s.requires.0 (quotation s) (row (before-hours (before-clock c))))

pub has_room-requires : goal.has_room-requires
has_room-requires c =
    let q = before-load (goal.at.has_room-requires c).After-load_contract-x in
    let s = start-clock q in (
      (tally-sound s.requires.0 (quotation s) (row (before-hours (before-clock q))) c.load_contract-x.ensures).sides,
      s.requires.1.side,
    )

pub returns-then-not-has_room : goal.returns-then-not-has_room
returns-then-not-has_room c =
    let q = before-load (goal.at.returns-then-not-has_room c).After-load_contract-x in
    let p = before-hours (before-clock q) in
    let s = start-clock q in
    full s.requires.0 (quotation s) (live (before-k p)) (row p) (hours (before-clock q)) (clock q) (room (goal.at.returns-then-not-has_room c).After-has_room ∙ not-true _ c.if-not-has_room.true-raw)

pub with_quote-x-requires : goal.with_quote-x-requires
with_quote-x-requires c =
    let q = before-load (goal.at.with_quote-x-requires c).After-load_contract-x in
    let s = start-clock q in (
      tally-sound s.requires.0 (quotation s) (row (before-hours (before-clock q))) c.load_contract-x.ensures,
      passed (arg s.requires.1.rate tt),
    )

pub store_header-requires : goal.store_header-requires
store_header-requires c = (sound-long (start-clock (before-load (goal.at.store_header-requires c).After-load_contract-x)).requires.0).counts

pub store_contract-requires : goal.store_contract-requires
store_contract-requires c =
    let q = before-load (goal.at.store_contract-requires c).After-load_contract-x in
    let s = start-clock q in
    let long = sound-long s.requires.0 in (
      record { counts = c.store_header.auto.counts ∙ long.counts; money = long.money },
      row_small s.requires.0 (quotation s) (row (before-hours (before-clock q))),
    )

pub returns : goal.returns
returns c =
    let q = before-load (goal.at.returns c).After-load_contract-x in
    let p = before-hours (before-clock q) in
    let s = start-clock q in
    let k = p.in_ok-k.k in
    done s.requires.0 (quotation s) (live (before-k p)) (row p) (hours (before-clock q)) (clock q)
    (room (goal.at.returns c).After-has_room ∙ not-false _ c.if-not-has_room.false-raw)
    (written s.requires.0 (quotation s) (row p) c.load_contract-x.ensures (before-k p).load_header-h.ensures
    (c.store_contract.ensures.0 ∙ ap₂ (λ l x. with_contract_counts l k x) c.store_header.ensures (row-after (goal.at.returns c).After-with_quote-x))
    (c.store_contract.ensures.1 ∙ ap (with_contract_money s.args.money.now k) (row-after (goal.at.returns c).After-with_quote-x)))
