use mathlib.Core.Path.{◌≡◌, sym, ap, ap₂, ◌∙◌, subst}
use Prim.Native.Nat.{◌<◌}
use native.Mathlib.Omega.{arith}
use lib.ListN.{length}
use Rattle.holdings.specs.Bounds.{GoodReference}
use Rattle.accounts.specs.Accounts.{refreshed}
use Rattle.memory.specs.declared.header_row.Header.{Header}
use Rattle.memory.specs.Layout.{Long}
use Rattle.model.specs.Book.{Book}
use Rattle.model.specs.Kept.{Kept}
use Rattle.standing.specs.Standing.{rows_of, view}
use Rattle.standing.specs.StandingLaws.{rows-shaped, sound-kept}
use Rattle.standing.specs.SoundLaws.{sound-header}
use Rattle.standing.specs.WalkLaws.{walk-long, walk_step}
use Rattle.settling.specs.SettlingLaws.{refreshed-six, good-reference, turn-limits, refresh-end}
use Rattle.settling.proofs.refresh_members.Goals as goal
use Rattle.settling.proofs.refresh_members.Goals.{At-loop-row, In-loop-row, Start}
use Rattle.settling.proofs.refresh_members.Invariants.{change}

-- ---- the book, which has the header's members and reference rate
module _ (s : Start) where
  abbrev book : Book
  book = view s.args.counts.now s.args.money.now

  is-kept : Kept book
  is-kept = sound-kept s.requires.0

  many : s.args.h.members ≡ length book.accounts.members
  many = ap (λ (x : Header). x.members) (s.requires.1 ∙ sound-header s.requires.0)

  rate : s.args.h.reference ≡ book.settings.reference
  rate = ap (λ (x : Header). x.reference) (s.requires.1 ∙ sound-header s.requires.0)

-- ---- a turn
long : (c : At-loop-row) → Long c.loop-row.counts c.loop-row.money
long c =
    let b = book (goal.at.At-loop-row c).Start in
    walk-long (rows_of b) (rows-shaped (is-kept (goal.at.At-loop-row c).Start)) (change b) (refreshed-six _) c.loop-row.row c.loop-row.invariant

below : (c : In-loop-row) → c.loop-row.row < length (book (goal.at.In-loop-row c).Start).accounts.members
below c = omega (arith, many (goal.at.In-loop-row c).Start)

small : (c : In-loop-row) → c.loop-row.row < 64
small c = omega (arith, below c, (is-kept (goal.at.In-loop-row c).Start).sized.members)

pub load_account-a-requires : goal.load_account-a-requires
load_account-a-requires c = (long (goal.at.load_account-a-requires c).At-loop-row, small c)

pub refresh_account-requires : goal.refresh_account-requires
refresh_account-requires c =
    let l = c.loop-row in
    rw c.load_account-a.ensures (
      turn-limits (is-kept (goal.at.refresh_account-requires c).Start) (change (book (goal.at.refresh_account-requires c).Start)) (refreshed-six _) l.row l.invariant (below (goal.at.refresh_account-requires c).In-loop-row),
      subst GoodReference (sym (rate (goal.at.refresh_account-requires c).Start)) (good-reference (is-kept (goal.at.refresh_account-requires c).Start)),
    )

pub store_account-requires : goal.store_account-requires
store_account-requires c = (long (goal.at.store_account-requires c).At-loop-row, small (goal.at.store_account-requires c).In-loop-row)

pub loop-row-preserved : goal.loop-row-preserved
loop-row-preserved c =
    let l = c.loop-row in
    let s = (goal.at.loop-row-preserved c).Start in
    walk_step (rows_of (book s)) (rows-shaped (is-kept s)) (change (book s)) (refreshed-six _) l.row l.invariant (small (goal.at.loop-row-preserved c).In-loop-row)
    (c.refresh_account.ensures ∙ ap₂ refreshed (rate s) c.load_account-a.ensures)
    c.store_account.ensures.0
    c.store_account.ensures.1

-- ---- the end
pub returns : goal.returns
returns c =
    let l = c.loop-row in
    refresh-end (is-kept (goal.at.returns c).Start) l.row (omega (arith, many (goal.at.returns c).Start)) l.invariant
