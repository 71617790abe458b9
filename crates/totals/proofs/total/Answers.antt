use Rattle.std.proofs.Common.{rules}
use Rattle.std.proofs.lemmas.List.{length_push}
use Rattle.std.proofs.lemmas.Slice.Zip.{zip_turn, zip_end}
use Rattle.std.specs.Iterator.Adapters.{zip_first, zip_second}
use Rattle.std.specs.Slice.Iter.{iter_rest}
use mathlib.Core.Path.{◌≡◌, sym, ap, ap₂, ◌∙◌}
use Prim.Native.Nat.{◌+◌, ◌<◌}
use native.Mathlib.Omega.{arith}
use lib.ListN.{length, take, get_or}
use Rattle.lists.specs.Zipped.{zipped}
use Rattle.whole.specs.Machine.{Got, got, kept, fits}
use Rattle.whole.specs.Sums.{sum_z, sum-none}
use Rattle.positions.specs.Deals.{flat}
use Rattle.positions.specs.Rows.{row_more, rows_all}
use Rattle.totals.specs.Totals.{asked, total}
use Rattle.totals.proofs.BoundLaws.{asked-each}
use Rattle.totals.proofs.total.Goals as goal
use Rattle.totals.proofs.total.Goals.{After-into_iter-p-iterator, In-Some, After-asked-sum}

pub loop-p-init : goal.loop-p-init
loop-p-init c = sym (sum-none (zipped asked c.args.positions c.args.margins))

-- the pairs begin at the first row
begun : (c : After-into_iter-p-iterator) → let pairs = c.into_iter-p-iterator.result in
    (iter_rest (zip_first pairs) ≡ c.args.positions) × (iter_rest (zip_second pairs) ≡ c.args.margins)
begun c = search rules

-- the row of this turn
turn : (c : In-Some) → let a = c.args in
    let row = length c.loop-p.yielded in
    (row < length a.positions)
    × (row < length a.margins)
    × (c.in-Some.p.now ≡ get_or a.positions row flat)
    × (c.in-Some.margin.now ≡ get_or a.margins row 0)
turn c =
    let b = begun (goal.at.In-Some c).After-into_iter-p-iterator in
    let t =
    zip_turn _ _ c.loop-p.yielded c.into_iter-p-iterator.result c.loop-p.p-iterator c.next.new.self _ b.0 b.1 c.loop-p.yielded_by _ c.in-Some.is c.next.ensures.steps in
    (t.0, t.1, t.2 flat, t.3 0)

pub asked-sum-requires : goal.asked-sum-requires
asked-sum-requires c =
    let row = length c.loop-p.yielded in
    let t = turn (goal.at.asked-sum-requires c).In-Some in
    rw (t.2, t.3) (c.requires.0.at row, c.requires.1.at row)

abbrev sum : (c : After-asked-sum)
    → Got 12600000000000 (sum_z (take (length c.loop-p.yielded + 1) (zipped asked c.args.positions c.args.margins)))
sum c =
    let t = turn (goal.at.After-asked-sum c).In-Some in
    got
    (row_more asked 0 c.args.positions c.args.margins c.requires.0.six c.requires.1.six (length c.loop-p.yielded) (asked-each c.requires.0 c.requires.1) tt
    (omega (arith, t.0, c.requires.0.six))
    c.loop-p.invariant
    (c.asked-sum.ensures ∙ ap₂ asked t.2 t.3))

pub overflow_add-sum : goal.overflow_add-sum
overflow_add-sum c = fits (sum (goal.at.overflow_add-sum c).After-asked-sum).reads tt

pub loop-p-preserved : goal.loop-p-preserved
loop-p-preserved c =
    let all = zipped asked c.args.positions c.args.margins in
    (kept (sum (goal.at.loop-p-preserved c).After-asked-sum).reads tt).eq
    ∙ ap (λ n. sum_z (take n all)) (sym (length_push c.loop-p.yielded (c.in-Some.p, c.in-Some.margin)))

pub returns : goal.returns
unfolding total
returns c =
    let b = begun (goal.at.returns c).After-into_iter-p-iterator in
    let long =
    zip_end _ _ c.loop-p.yielded c.into_iter-p-iterator.result c.loop-p.p-iterator c.next.new.self _ b.0 b.1 c.loop-p.yielded_by c.in-None.is c.next.ensures.steps in
    c.loop-p.invariant
    ∙ rows_all asked 0 c.args.positions c.args.margins c.requires.0.six c.requires.1.six (length c.loop-p.yielded)
    (omega (arith, long, c.requires.0.six, c.requires.1.six))
