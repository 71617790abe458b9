-- After i turns the first i fields are put.
use mathlib.Core.Path.{refl}
use mathlib.Core.List.{List}
use Prim.Native.Nat.{ℕ, ◌+◌, ◌≤◌, ◌<◌}
use native.Mathlib.Omega.{arith}
use lib.ListN.{length, take, length-take}
use lib.Seq.{take_all}
use Rattle.wording.specs.Text.{fields_text}
use Rattle.wording.specs.TextLaws.{field-length, fields-length}
use Rattle.wording.specs.WalkLaws.{fields-more, walk_begins, walk-room, walk-next}
use Rattle.wording.proofs.record_line.put_fields.Goals as goal

-- there is room for one field more
left : (kind i at size : ℕ) (fields : List ℕ) → i < 13 → at + 507 ≤ size → at + (length (fields_text kind 0 (take i fields)) + 39) ≤ size
left kind i at size fields more room =
    let done = take i fields in
    let few : length done ≤ 12 = omega (arith, length-take i fields) in
    omega (arith, fields-length kind 0 done)

pub loop-i-init : goal.loop-i-init
unfolding fields_text
loop-i-init c =
    let a = c.args in
    walk_begins (λ k. fields_text a.kind 0 (take k (take a.n a.fields))) a.room.now a.at refl

pub put_field-next-requires : goal.put_field-next-requires
put_field-next-requires c =
    let a = c.args in
    let own = take a.n a.fields in
    let below : c.loop-i.i < a.n = omega (arith, length-take a.n a.fields) in (
      omega (arith, c.requires.0),
      walk-room 39 (left a.kind c.loop-i.i a.at (length a.room.now) own (omega (arith, c.requires.1.0)) c.requires.1.1) c.loop-i.invariant,
    )

pub loop-i-preserved : goal.loop-i-preserved
loop-i-preserved c =
    let a = c.args in
    let i = c.loop-i.i in
    let own = take a.n a.fields in
    let below : i < a.n = omega (arith, length-take a.n a.fields) in
    walk-next 39 (left a.kind i a.at (length a.room.now) own (omega (arith, c.requires.1.0)) c.requires.1.1) c.loop-i.invariant
    (field-length a.kind i _) (fields-more a.kind own i (omega arith)) c.put_field-next.ensures

pub shape_of-room : goal.shape_of-room
shape_of-room c = c.loop-i.invariant.same

pub returns : goal.returns
returns c =
    let own = take c.args.n c.args.fields in
    rw (take_all c.loop-i.i own (omega arith), c.requires.0) at c.loop-i.invariant.put
