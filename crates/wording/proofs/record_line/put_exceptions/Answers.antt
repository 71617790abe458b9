-- After some turns as many exceptions are put.
use mathlib.Core.Path.{refl}
use mathlib.Core.List.{List}
use Prim.Native.Nat.{ℕ, ◌+◌, ◌≤◌, ◌<◌}
use native.Mathlib.Omega.{arith}
use lib.ListN.{length, get_or, take, length-take}
use lib.Seq.{take_all}
use Rattle.lists.specs.Block.{block}
use Rattle.decimal.proofs.PutLaws.{put-more, numeral-length}
use Rattle.wording.specs.Text.{exception_text}
use Rattle.wording.specs.TextLaws.{exception-length, exceptions-length}
use Rattle.wording.specs.WalkLaws.{exceptions-more, walk_begins, walk-room, walk-next}
use Rattle.wording.proofs.record_line.put_exceptions.Goals as goal

-- there is room for one exception more
left : (done at size : ℕ) (exceptions : List ℕ) → done < length exceptions → length exceptions ≤ 400 → at + 8400 ≤ size
    → at + (length (block exception_text (take done exceptions)) + 21) ≤ size
left done at size exceptions more most room =
    let first = take done exceptions in
    let few : length first ≤ 399 = omega (arith, length-take done exceptions) in
    omega (arith, exceptions-length first)

pub loop-exception-init : goal.loop-exception-init
unfolding block
loop-exception-init c = let a = c.args in walk_begins (λ k. block exception_text (take k a.exceptions.now)) a.room.now a.at refl

pub put_word-space-requires : goal.put_word-space-requires
put_word-space-requires c =
    let a = c.args in
    let l = c.loop-exception in
    let behind = walk-room 21 (left l.exception-index a.at (length a.room.now) a.exceptions.now (omega arith) c.requires.0 c.requires.1) l.invariant in
    omega (arith, behind)

pub put_number-next-requires : goal.put_number-next-requires
put_number-next-requires c =
    let a = c.args in
    let l = c.loop-exception in
    let behind = walk-room 21 (left l.exception-index a.at (length a.room.now) a.exceptions.now (omega arith) c.requires.0 c.requires.1) l.invariant in
    omega (arith, behind, c.put_word-space.ensures.place)

pub loop-exception-preserved : goal.loop-exception-preserved
loop-exception-preserved c =
    let a = c.args in
    let l = c.loop-exception in
    let listed = a.exceptions.now in
    let n = get_or listed l.exception-index 0 in
    let fits = left l.exception-index a.at (length a.room.now) listed (omega arith) c.requires.0 c.requires.1 in
    let behind = walk-room 21 fits l.invariant in
    walk-next 21 fits l.invariant (exception-length n) (exceptions-more listed l.exception-index (omega arith))
    (put-more (omega (arith, behind, numeral-length n)) c.put_word-space.ensures c.put_number-next.ensures)

pub shape_of-room : goal.shape_of-room
shape_of-room c = c.loop-exception.invariant.same

pub returns : goal.returns
returns c = rw (take_all c.loop-exception.exception-index c.args.exceptions.now (omega arith)) at c.loop-exception.invariant.put
