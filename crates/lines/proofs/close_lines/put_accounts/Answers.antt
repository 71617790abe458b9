-- The lines of the account numbers before `from` are put, in rising order.
use mathlib.Core.Path.{sym, ◌∙◌, subst}
use mathlib.Core.List.{List}
use Prim.Native.Nat.{ℕ, ◌+◌, ◌*◌, ◌≤◌}
use native.Mathlib.Omega.{arith}
use lib.ListN.{length}
use Rattle.decimal.specs.Put.{Put}
use Rattle.model.specs.Book.{Book}
use Rattle.model.specs.Answers.{Bill, bill_in}
use Rattle.standing.specs.Standing.{view}
use Rattle.standing.specs.StandingLaws.{sound-kept}
use Rattle.reports.specs.ReportLaws.{LowestIs, Pinned, pinned}
use Rattle.lines.specs.Lines.{as_bill, account_line}
use Rattle.lines.specs.LineLaws.{Walked, walk_begins, walk_ends, walk-room, walk-next}
use Rattle.lines.specs.KeyLaws.{billed-is, billed-there}
use Rattle.lines.specs.LengthLaws.{account-length}
use Rattle.lines.proofs.close_lines.put_accounts.Goals as goal
use Rattle.lines.proofs.close_lines.put_accounts.Goals.{After-member_from, At-loop-number, In-Some, In-Some-bill_of, In_default-bill_of, Start}
use Rattle.lines.proofs.close_lines.put_accounts.Invariants.{line_in}

abbrev start : At-loop-number → Start
start c = (goal.at.At-loop-number c).Start

abbrev book : At-loop-number → Book
book c = view (start c).args.counts.now (start c).args.money.now

abbrev asked : In-Some → At-loop-number
asked c = (goal.at.In-Some c).At-loop-number

-- what was answered is the lowest number from `from` on, or that there is none
answered : (c : After-member_from) → Pinned c.loop-number.from (book (goal.at.After-member_from c).At-loop-number).accounts.members c.member_from.result
answered c =
    subst (Pinned c.loop-number.from (book (goal.at.After-member_from c).At-loop-number).accounts.members) (sym c.member_from.ensures) (pinned c.loop-number.from (book (goal.at.After-member_from c).At-loop-number).accounts.members)

lowest : (c : In-Some) → LowestIs (asked c).loop-number.from (book (asked c)).accounts.members c.in-Some.number
lowest c = let p = asked c in subst (Pinned p.loop-number.from (book p).accounts.members) c.in-Some.is (answered (goal.at.In-Some c).After-member_from)

pub loop-number-init : goal.loop-number-init
loop-number-init c = walk_begins c.args.room.now c.args.at

pub member_from-requires : goal.member_from-requires
member_from-requires c = (start c).requires.0

pub returns : goal.returns
returns c =
    walk_ends c.loop-number.invariant (subst (Pinned c.loop-number.from (book (goal.at.returns c).At-loop-number).accounts.members) c.in_default.is (answered (goal.at.returns c).After-member_from))

pub bill_of-requires : goal.bill_of-requires
bill_of-requires c = (start (asked (goal.at.bill_of-requires c).In-Some)).requires.0

-- a number of the list is shown
never : (c : In_default-bill_of) → ⊥
never c =
    billed-there (book (asked (goal.at.In_default-bill_of c).In-Some)) c.in-Some.number (lowest (goal.at.In_default-bill_of c).In-Some).there (sym c.in_default-bill_of.is ∙ c.bill_of.ensures)

pub returns-in_default-bill_of : goal.returns-in_default-bill_of
returns-in_default-bill_of c = absurd (never c)

abbrev keyed : In-Some-bill_of → In-Some
keyed c = (goal.at.In-Some-bill_of c).In-Some

-- there is room for the line of the number at hand, and it is the next of the walk
module _ (c : In-Some-bill_of) where
  abbrev p : At-loop-number
  p = asked (keyed c)

  abbrev k : ℕ
  k = (keyed c).in-Some.number

  small : k ≤ 9999999
  small = (sound-kept (start p).requires.0).keys.numbers k (lowest (keyed c)).there

  wide : (number : ℕ) → length (line_in (book p) number) ≤ 120
  wide number = account-length number (bill_in (book p) number)

  fits : (start p).args.at + 64 * 120 ≤ length (start p).args.room.now
  fits = omega (arith, (start p).requires.1)

  room : p.loop-number.next + 120 ≤ length p.loop-number.room
  room = walk-room 120 64 wide (sound-kept (start p).requires.0).sized.members fits p.loop-number.invariant k (lowest (keyed c))

  more : {room' : List ℕ} {next : ℕ} → Put p.loop-number.room p.loop-number.next (account_line k (as_bill c.in-Some-bill_of.bill)) next room'
      → Walked (line_in (book p)) (book p).accounts.members (start p).args.room.now (start p).args.at (k + 1) room' next
  more {room'} {next} put =
      walk-next 120 64 wide (sound-kept (start p).requires.0).sized.members fits p.loop-number.invariant k (lowest (keyed c))
      (subst (λ (x : Bill). Put p.loop-number.room p.loop-number.next (account_line k x) next room')
      (billed-is (book p) k (lowest (keyed c)).there (sym c.in-Some-bill_of.is ∙ c.bill_of.ensures)) put)

pub put_account-next-requires : goal.put_account-next-requires
put_account-next-requires c = room (goal.at.put_account-next-requires c).In-Some-bill_of

pub overflow_add-from : goal.overflow_add-from
overflow_add-from c = omega (arith, small (goal.at.overflow_add-from c).In-Some-bill_of)

pub loop-number-smaller : goal.loop-number-smaller
loop-number-smaller c = omega (arith, small (goal.at.loop-number-smaller c).In-Some-bill_of, (lowest (keyed (goal.at.loop-number-smaller c).In-Some-bill_of)).reached)

pub loop-number-preserved : goal.loop-number-preserved
loop-number-preserved c = more (goal.at.loop-number-preserved c).In-Some-bill_of c.put_account-next.ensures
