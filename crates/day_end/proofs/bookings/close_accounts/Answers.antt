use mathlib.Core.Path.{◌≡◌, sym, ap, ◌∙◌, subst}
use Prim.Native.Nat.{◌<◌}
use native.Mathlib.Omega.{arith}
use Rattle.memory.specs.declared.header_row.Header.{Header}
use Rattle.memory.specs.Layout.{Long}
use Rattle.memory.specs.MemoryLaws.{memory-long, header_is}
use Rattle.standing.specs.CloseRows.{closed_row}
use Rattle.standing.specs.WalkLaws.{walked, walk-row, walks_more}
use Rattle.standing.specs.Turns.{Whole}
use Rattle.day_end.specs.TurnLaws.{closed-six}
use Rattle.day_end.proofs.bookings.close_accounts.Goals as goal
use Rattle.day_end.proofs.bookings.close_accounts.Goals.{After-load_header-h, At-loop-i, In-loop-i}

long : (c : At-loop-i) → Long c.loop-i.counts c.loop-i.money
long c =
    let p = c.requires in
    let w = c.loop-i.invariant p.rows p.whole in
    memory-long _ w.shaped w.holds

-- the members are those of the rows
members : (c : After-load_header-h) → c.load_header-h.result.members ≡ c.requires.rows.header.members
members c =
    let p = c.requires in
    ap (λ (h : Header). h.members) (c.load_header-h.ensures ∙ header_is p.rows p.whole.shaped p.whole.holds)

inside : (c : In-loop-i) → c.loop-i.i < 64
inside c =
    omega (arith, members (goal.at.In-loop-i c).After-load_header-h, c.requires.known.members)

pub load_header-h-requires : goal.load_header-h-requires
load_header-h-requires c = let p = c.requires in (memory-long _ p.whole.shaped p.whole.holds).counts

pub load_account-a-requires : goal.load_account-a-requires
load_account-a-requires c = (long (goal.at.load_account-a-requires c).At-loop-i, inside c)

pub closed_row-requires : goal.closed_row-requires
closed_row-requires c =
    let l = c.loop-i in
    let p = c.requires in
    let now = l.invariant p.rows p.whole in (
      rw (c.load_account-a.ensures
          ∙ walk-row p.rows p.whole.shaped _ (closed-six c.args.ended c.args.d p.known.end) l.i now.holds (inside (goal.at.closed_row-requires c).In-loop-i))
          (p.known.accounts l.i (omega (arith, members (goal.at.closed_row-requires c).After-load_header-h))),
      p.known.end,
    )

pub store_account-requires : goal.store_account-requires
store_account-requires c = (long (goal.at.store_account-requires c).At-loop-i, inside (goal.at.store_account-requires c).In-loop-i)

pub loop-i-preserved : goal.loop-i-preserved
loop-i-preserved c =
    let l = c.loop-i in
    let did = c.closed_row.ensures ∙ ap (closed_row c.args.ended c.args.d) c.load_account-a.ensures in
    let six = closed-six c.args.ended c.args.d c.requires.known.end in
    let put = c.store_account.ensures in
    walks_more _ _ _ l.i six l.invariant (inside (goal.at.loop-i-preserved c).In-loop-i) did put.0 put.1

pub shape_of-counts : goal.shape_of-counts
shape_of-counts c =
    let p = c.requires in
    (long (goal.at.shape_of-counts c).At-loop-i).counts ∙ sym (memory-long _ p.whole.shaped p.whole.holds).counts

pub shape_of-money : goal.shape_of-money
shape_of-money c =
    let p = c.requires in
    (long (goal.at.shape_of-money c).At-loop-i).money ∙ sym (memory-long _ p.whole.shaped p.whole.holds).money

pub returns : goal.returns
returns c r w =
    let l = c.loop-i in
    let all : l.i ≡ r.header.members =
    (let e : l.i ≡ c.load_header-h.result.members = omega arith in
    e ∙ ap (λ (h : Header). h.members) (c.load_header-h.ensures ∙ header_is r w.shaped w.holds)) in
    subst (λ i. Whole l.counts l.money (walked r (closed_row c.args.ended c.args.d) i)) all (l.invariant r w)
