-- The lines of the codes before `from` are put, in rising order.
use mathlib.Core.Path.{sym, ◌∙◌, subst}
use mathlib.Core.List.{List}
use Prim.Native.Nat.{ℕ, ◌+◌, ◌*◌, ◌≤◌, ◌<◌}
use native.Mathlib.Omega.{arith}
use lib.ListN.{length}
use Rattle.decimal.specs.Put.{Put}
use Rattle.model.specs.Book.{Book}
use Rattle.rates.specs.declared.Settled.{Settled}
use Rattle.standing.specs.Standing.{view}
use Rattle.standing.specs.StandingLaws.{sound-kept}
use Rattle.reports.specs.ReportLaws.{LowestIs, Pinned, pinned}
use Rattle.lines.specs.Lines.{rate_line}
use Rattle.lines.specs.LineLaws.{Walked, walk_begins, walk_ends, walk-room, walk-next}
use Rattle.lines.specs.KeyLaws.{rated-is, rated-there}
use Rattle.lines.specs.LengthLaws.{rate-length}
use Rattle.lines.proofs.close_lines.put_rates.Goals as goal
use Rattle.lines.proofs.close_lines.put_rates.Goals.{After-settled_code_from, At-loop-code, In-Some-rate_of, In-Some, In_default-rate_of, Start}
use Rattle.lines.proofs.close_lines.put_rates.Invariants.{line_in}

abbrev start : At-loop-code → Start
start c = (goal.at.At-loop-code c).Start

abbrev book : At-loop-code → Book
book c = view (start c).args.counts.now (start c).args.money.now

abbrev asked : In-Some → At-loop-code
asked c = (goal.at.In-Some c).At-loop-code

-- what was answered is the lowest code from `from` on, or that there is none
answered : (c : After-settled_code_from) → Pinned c.loop-code.from (book (goal.at.After-settled_code_from c).At-loop-code).results.codes c.settled_code_from.result
answered c =
    subst (Pinned c.loop-code.from (book (goal.at.After-settled_code_from c).At-loop-code).results.codes) (sym c.settled_code_from.ensures) (pinned c.loop-code.from (book (goal.at.After-settled_code_from c).At-loop-code).results.codes)

lowest : (c : In-Some) → LowestIs (asked c).loop-code.from (book (asked c)).results.codes c.in-Some.code
lowest c = let p = asked c in subst (Pinned p.loop-code.from (book p).results.codes) c.in-Some.is (answered (goal.at.In-Some c).After-settled_code_from)

pub loop-code-init : goal.loop-code-init
loop-code-init c = walk_begins c.args.room.now c.args.at

pub settled_code_from-requires : goal.settled_code_from-requires
settled_code_from-requires c = (start c).requires.0

pub returns : goal.returns
returns c =
    walk_ends c.loop-code.invariant (subst (Pinned c.loop-code.from (book (goal.at.returns c).At-loop-code).results.codes) c.in_default.is (answered (goal.at.returns c).After-settled_code_from))

pub rate_of-requires : goal.rate_of-requires
rate_of-requires c = (start (asked (goal.at.rate_of-requires c).In-Some)).requires.0

-- a code of the list is shown
never : (c : In_default-rate_of) → ⊥
never c =
    rated-there (book (asked (goal.at.In_default-rate_of c).In-Some)) c.in-Some.code (lowest (goal.at.In_default-rate_of c).In-Some).there (sym c.in_default-rate_of.is ∙ c.rate_of.ensures)

pub returns-in_default-rate_of : goal.returns-in_default-rate_of
returns-in_default-rate_of c = absurd (never c)

abbrev keyed : In-Some-rate_of → In-Some
keyed c = (goal.at.In-Some-rate_of c).In-Some

-- there is room for the line of the code at hand, and it is the next of the walk
module _ (c : In-Some-rate_of) where
  abbrev p : At-loop-code
  p = asked (keyed c)

  abbrev k : ℕ
  k = (keyed c).in-Some.code

  small : k < 10000
  small = (sound-kept (start p).requires.0).keys.codes k (lowest (keyed c)).there

  wide : (code : ℕ) → length (line_in (book p) code) ≤ 96
  wide code = rate-length code ((book p).results.settled code)

  fits : (start p).args.at + 6 * 96 ≤ length (start p).args.room.now
  fits = omega (arith, (start p).requires.1)

  room : p.loop-code.next + 96 ≤ length p.loop-code.room
  room = walk-room 96 6 wide (sound-kept (start p).requires.0).keys.few fits p.loop-code.invariant k (lowest (keyed c))

  more : {room' : List ℕ} {next : ℕ} → Put p.loop-code.room p.loop-code.next (rate_line k c.in-Some-rate_of.found) next room'
      → Walked (line_in (book p)) (book p).results.codes (start p).args.room.now (start p).args.at (k + 1) room' next
  more {room'} {next} put =
      walk-next 96 6 wide (sound-kept (start p).requires.0).keys.few fits p.loop-code.invariant k (lowest (keyed c))
      (subst (λ (x : Settled). Put p.loop-code.room p.loop-code.next (rate_line k x) next room')
      (rated-is (book p) k (lowest (keyed c)).there (sym c.in-Some-rate_of.is ∙ c.rate_of.ensures)) put)

pub put_rate-next-requires : goal.put_rate-next-requires
put_rate-next-requires c = room (goal.at.put_rate-next-requires c).In-Some-rate_of

pub overflow_add-from : goal.overflow_add-from
overflow_add-from c = omega (arith, small (goal.at.overflow_add-from c).In-Some-rate_of)

pub loop-code-smaller : goal.loop-code-smaller
loop-code-smaller c = omega (arith, small (goal.at.loop-code-smaller c).In-Some-rate_of, (lowest (keyed (goal.at.loop-code-smaller c).In-Some-rate_of)).reached)

pub loop-code-preserved : goal.loop-code-preserved
loop-code-preserved c = more (goal.at.loop-code-preserved c).In-Some-rate_of c.put_rate-next.ensures
