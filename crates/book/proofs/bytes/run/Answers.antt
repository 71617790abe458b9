-- The records before the place were called. Where no record stands, or the file ends, feeding changes nothing.
use Rattle.std.proofs.Common.{◌<◌, arith}
use Rattle.book.specs.FeedingLaws.{Running, run-starts, running-sound, run_step, run-refused}
use Rattle.book.proofs.bytes.run.Goals as goal
use Rattle.book.proofs.bytes.run.Goals.{In-Ok}

-- the place after a record that was called
going : (c : In-Ok)
    → let place = c.loop-fed.place in
    let bytes = c.args.bytes.now in
    let next = c.in-Ok.fed.next in
    (place < next) × Running bytes next c.feed.new.counts c.feed.new.money
going c =
    run_step c.loop-fed.invariant
    (λ i. (c.type_inv.bytes i).fits)
    (rw c.in-Ok.is at c.feed.ensures)

pub loop-fed-init : goal.loop-fed-init
loop-fed-init c = run-starts _ c.new_book.ensures

pub feed-requires : goal.feed-requires
feed-requires c = running-sound c.loop-fed.invariant

pub loop-fed-smaller : goal.loop-fed-smaller
loop-fed-smaller c =
    let on = (going c).0 in
    let inside = (going c).1.inside in
    omega arith

pub loop-fed-preserved : goal.loop-fed-preserved
loop-fed-preserved c = (going c).1

pub returns : goal.returns
returns c = run-refused c.loop-fed.invariant (rw c.in_default.is at c.feed.ensures)
