use Rattle.std.proofs.Common.{rules}
use Rattle.std.specs.Iterator.Adapters.{zip_first, zip_second}
use Rattle.std.specs.Slice.Iter.{iter_rest}
use mathlib.Core.Path.{◌≡◌, sym, ap, ap₂, ◌∙◌}
use Prim.Native.Nat.{◌+◌, ◌<◌}
use native.Mathlib.Omega.{arith}
use lib.ListN.{length, take, get_or}
use Rattle.std.proofs.lemmas.List.{length_push}
use Rattle.std.proofs.lemmas.Slice.Zip.{zip_turn, zip_end}
use Rattle.lists.specs.Zipped.{zipped}
use Rattle.whole.specs.Machine.{Got, got, kept, fits}
use Rattle.whole.specs.Sums.{sum_z, sum-none}
use Rattle.positions.specs.Rows.{row_more, rows_all}
use Rattle.positions.specs.Deals.{flat}
use Rattle.positions.specs.Bounds.{no_mark}
use Rattle.positions.specs.BoundLaws.{modest-at}
use Rattle.booking.specs.Variation.{variation_at, variation}
use Rattle.booking.specs.BoundLaws.{variation-each}
use Rattle.booking.proofs.variation.Goals as goal
use Rattle.booking.proofs.variation.Goals.{After-into_iter-p-iterator, In-Some, After-variation_at-sum}

pub loop-p-init : goal.loop-p-init
loop-p-init c = sym (sum-none (zipped variation_at c.args.positions c.args.marks))

-- the pairs begin at the first row
begun : (c : After-into_iter-p-iterator) → let pairs = c.into_iter-p-iterator.result in
    (iter_rest (zip_first pairs) ≡ c.args.positions) × (iter_rest (zip_second pairs) ≡ c.args.marks)
begun c = search rules

-- the row of this turn
turn : (c : In-Some) → let a = c.args in
    let row = length c.loop-p.yielded in
    (row < length a.positions)
    × (row < length a.marks)
    × (c.in-Some.p.now ≡ get_or a.positions row flat)
    × (c.in-Some.m.now ≡ get_or a.marks row no_mark)
turn c =
    let b = begun (goal.at.In-Some c).After-into_iter-p-iterator in
    let t = zip_turn _ _ c.loop-p.yielded c.into_iter-p-iterator.result c.loop-p.p-iterator c.next.new.self _ b.0 b.1 c.loop-p.yielded_by _ c.in-Some.is c.next.ensures.steps in
    (t.0, t.1, t.2 flat, t.3 no_mark)

pub variation_at-sum-requires : goal.variation_at-sum-requires
variation_at-sum-requires c =
    let row = length c.loop-p.yielded in
    let t = turn (goal.at.variation_at-sum-requires c).In-Some in
    rw (t.2, t.3) (modest-at c.requires.0 row, c.requires.1.at row)

abbrev sum : (c : After-variation_at-sum)
    → Got 1506000000000000 (sum_z (take (length c.loop-p.yielded + 1) (zipped variation_at c.args.positions c.args.marks)))
sum c =
    let t = turn (goal.at.After-variation_at-sum c).In-Some in
    got
    (row_more variation_at no_mark c.args.positions c.args.marks c.requires.0.nets.six c.requires.1.six (length c.loop-p.yielded) (variation-each c.requires.0 c.requires.1) tt
    (omega (arith, t.0, c.requires.0.nets.six))
    c.loop-p.invariant
    (c.variation_at-sum.ensures ∙ ap₂ variation_at t.2 t.3))

pub overflow_add-sum : goal.overflow_add-sum
overflow_add-sum c = fits (sum (goal.at.overflow_add-sum c).After-variation_at-sum).reads tt

pub loop-p-preserved : goal.loop-p-preserved
loop-p-preserved c =
    let all = zipped variation_at c.args.positions c.args.marks in
    (kept (sum (goal.at.loop-p-preserved c).After-variation_at-sum).reads tt).eq
    ∙ ap (λ n. sum_z (take n all)) (sym (length_push c.loop-p.yielded (c.in-Some.p, c.in-Some.m)))

pub returns : goal.returns
unfolding variation
returns c =
    let b = begun (goal.at.returns c).After-into_iter-p-iterator in
    let long = zip_end _ _ c.loop-p.yielded c.into_iter-p-iterator.result c.loop-p.p-iterator c.next.new.self _ b.0 b.1 c.loop-p.yielded_by c.in-None.is c.next.ensures.steps in
    c.loop-p.invariant
    ∙ rows_all variation_at no_mark c.args.positions c.args.marks c.requires.0.nets.six c.requires.1.six (length c.loop-p.yielded)
    (omega (arith, long, c.requires.0.nets.six, c.requires.1.six))
