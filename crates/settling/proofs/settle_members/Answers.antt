use mathlib.Core.Path.{◌≡◌, sym, ap, ap₂, ◌∙◌}
use Prim.Native.Nat.{ℕ, ◌+◌, ◌<◌}
use native.Mathlib.Omega.{arith}
use lib.IntN.{◌-ℤ◌}
use lib.ListN.{length, get_or}
use mir.Syntax.{w64}
use mir.Val.{SFits, to_z, of_z}
use Rattle.whole.specs.Machine.{told, fits64, fits-is, back_is}
use Rattle.funds.specs.Funds.{settled}
use Rattle.funds.specs.declared.Settlement.{Settlement}
use Rattle.accounts.specs.declared.Account.{Account}
use Rattle.memory.specs.declared.header_row.Header.{Header}
use Rattle.memory.specs.Layout.{Long}
use Rattle.model.specs.Book.{Book}
use Rattle.model.specs.Effects.{paid_to}
use Rattle.model.specs.Kept.{Kept}
use Rattle.standing.specs.Standing.{rows_of, view}
use Rattle.standing.specs.StandingLaws.{rows-shaped, sound-kept, sound-holds}
use Rattle.standing.specs.SoundLaws.{sound-long, sound-header, sound-house}
use Rattle.standing.specs.WalkLaws.{walk_start, walk-long, walk-member, walk_step}
use Rattle.settling.specs.SettlingLaws.{settled_row, settled-six, house_after, house-start, house-step, house-within, turn-funds, settle-end}
use Rattle.settling.proofs.settle_members.Goals as goal
use Rattle.settling.proofs.settle_members.Goals.{After-struct_told-1, At-loop-i, In-loop-i, Start}

-- ---- the book, which has the header's members
module _ (s : Start) where
  abbrev book : Book
  book = view s.args.counts.now s.args.money.now

  is-kept : Kept book
  is-kept = sound-kept s.requires.0

  many : s.args.h.members ≡ length book.accounts.members
  many = ap (λ (x : Header). x.members) (s.requires.1 ∙ sound-header s.requires.0)

-- ---- a turn
long : (c : At-loop-i) → Long c.loop-i.counts c.loop-i.money
long c =
    walk-long (rows_of (book (goal.at.At-loop-i c).Start)) (rows-shaped (is-kept (goal.at.At-loop-i c).Start)) settled_row settled-six c.loop-i.i c.loop-i.invariant.0

below : (c : In-loop-i) → c.loop-i.i < length (book (goal.at.In-loop-i c).Start).accounts.members
below c = omega (arith, many (goal.at.In-loop-i c).Start)

small : (c : In-loop-i) → c.loop-i.i < 64
small c = omega (arith, below c, (is-kept (goal.at.In-loop-i c).Start).sized.members)

pub load_house-house-requires : goal.load_house-house-requires
load_house-house-requires c = (sound-long c.requires.0).money

pub loop-i-init : goal.loop-i-init
loop-i-init c = (
  walk_start settled_row (sound-holds c.requires.0),
  told c.load_house-house.result c.load_house-house.type_inv ∙ c.load_house-house.ensures ∙ sound-house c.requires.0 ∙ sym (house-start (book (goal.at.loop-i-init c).Start)),
)

pub load_account-a-requires : goal.load_account-a-requires
load_account-a-requires c = (long (goal.at.load_account-a-requires c).At-loop-i, small c)

pub settled-s-requires : goal.settled-s-requires
settled-s-requires c =
    let l = c.loop-i in
    rw c.load_account-a.ensures
    (turn-funds (is-kept (goal.at.settled-s-requires c).Start) settled_row settled-six l.i l.invariant.0 (below (goal.at.settled-s-requires c).In-loop-i))

-- the house after this turn
module _ (c : After-struct_told-1) where
  abbrev turn : In-loop-i
  turn = (goal.at.After-struct_told-1 c).In-loop-i

  abbrev start : Start
  start = (goal.at.After-struct_told-1 c).Start

  abbrev place : ℕ
  place = turn.loop-i.i

  abbrev answer : Settlement
  answer = c.settled-s.result

  paid-is : to_z w64 (of_z w64 answer.paid) ≡ paid_to (book start) (get_or (book start).accounts.members place 0)
  paid-is =
      told answer.paid c.struct_told-1.given.1.1.0.1
      ∙ ap (λ (x : Settlement). x.paid) c.settled-s.ensures
      ∙ ap (λ (a : Account). (settled a.funds).paid)
      (c.load_account-a.ensures
      ∙ walk-member (is-kept start) settled_row settled-six place turn.loop-i.invariant.0 (below turn))

  house-is : to_z w64 turn.loop-i.house-bits -ℤ to_z w64 (of_z w64 answer.paid) ≡ house_after (book start) (place + 1)
  house-is = ap₂ ◌-ℤ◌ turn.loop-i.invariant.1 paid-is ∙ house-step (book start) place (below turn)

  house-fits : SFits w64 (house_after (book start) (place + 1))
  house-fits = fits64 (house-within (is-kept start) (place + 1)) tt

pub overflow_sub-house : goal.overflow_sub-house
overflow_sub-house c = fits-is (house-is c) (house-fits c)

pub store_account-requires : goal.store_account-requires
store_account-requires c = let t = turn (goal.at.store_account-requires c).After-struct_told-1 in (long (goal.at.In-loop-i t).At-loop-i, small t)

-- an account with what its settlement leaves it
abbrev paid_row : Account → Settlement → Account
paid_row a x = record { number = a.number; holdings = a.holdings; funds = x.funds }

pub loop-i-preserved : goal.loop-i-preserved
loop-i-preserved c =
    let u = (goal.at.loop-i-preserved c).After-struct_told-1 in
    let g = is-kept (start u) in (
      walk_step (rows_of (book (start u))) (rows-shaped g) settled_row settled-six (place u) (turn u).loop-i.invariant.0 (small (turn u))
          (ap (paid_row c.load_account-a.result) c.settled-s.ensures
          ∙ ap settled_row c.load_account-a.ensures)
          c.store_account.ensures.0
          c.store_account.ensures.1,
      back_is (house-is u) (house-fits u),
    )

-- ---- the end
pub store_house-requires : goal.store_house-requires
store_house-requires c = (long (goal.at.store_house-requires c).At-loop-i).money

pub store_header-requires : goal.store_header-requires
store_header-requires c = (long (goal.at.store_header-requires c).At-loop-i).counts

pub returns : goal.returns
returns c =
    settle-end (is-kept (goal.at.returns c).Start) c.loop-i.i (omega (arith, many (goal.at.returns c).Start)) c.loop-i.invariant.0 (c.requires.1 ∙ sound-header c.requires.0) c.loop-i.invariant.1
    c.store_header.ensures
    c.store_house.ensures
