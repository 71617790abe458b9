-- Putting the whole number is putting the groups that are left.
use lib.ListN.{length, length-set}
use native.Mathlib.Omega.{arith}
use mathlib.Core.Path.{refl, sym, ap, ◌∙◌}
use Prim.Native.Nat.{suc, ◌+◌, ◌/◌, ◌%◌, ◌<◌}
use Rattle.numbers.specs.Seven.{groups}
use Rattle.numbers.specs.SevenLaws.{left, groups-some, groups-last}
use Rattle.encoding.specs.Put.{put, put_one, put-cons}
use Rattle.encoding.proofs.write_number.Goals as goal
use Rattle.encoding.proofs.write_number.Goals.{At-loop-rest}

-- a group is left to write, and there is room for it
inside : (c : At-loop-rest) → c.loop-rest.i < length c.loop-rest.room
inside c = let v = c.loop-rest.invariant in omega (arith, v.2, v.3, groups-some v.0 c.loop-rest.rest)

pub loop-rest-init : goal.loop-rest-init
loop-rest-init c = (9, omega arith, refl, refl, refl)

pub bounds-room-i : goal.bounds-room-i
bounds-room-i c = omega (arith, inside c.before)

pub overflow_add-i : goal.overflow_add-i
overflow_add-i c = omega (arith, inside c.before)

pub loop-rest-preserved : goal.loop-rest-preserved
loop-rest-preserved c =
    let v = c.loop-rest.invariant in
    let g = left v.0 _ v.1 c.loop-rest-test.true in
    (g.fewer, g.fits, omega (arith, ap length g.is, v.2), simp length-set v.3, v.4 ∙ rw g.is (put-cons c.loop-rest.room c.loop-rest.i (c.loop-rest.rest % 128 + 128) (groups (suc g.fewer) (c.loop-rest.rest / 128)) (inside c.before)))

pub bounds-room-i-2 : goal.bounds-room-i-2
bounds-room-i-2 c = omega (arith, inside c.before)

pub overflow_add-result : goal.overflow_add-result
overflow_add-result c = omega (arith, inside c.before)

pub shape_of-room : goal.shape_of-room
shape_of-room c = simp length-set c.loop-rest.invariant.3

pub returns : goal.returns
returns c =
    let v = c.loop-rest.invariant in
    let e = groups-last v.0 _ c.loop-rest-test.false in
    (omega (arith, v.2, ap length e), put_one c.loop-rest.room c.loop-rest.i c.loop-rest.rest (inside c.before) ∙ ap (λ xs. put c.loop-rest.room c.loop-rest.i xs) (sym e) ∙ sym v.4)
