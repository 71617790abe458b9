-- The room so far holds the numbers passed, and all of them are there: they were counted before.
use Rattle.std.specs.Prelude.{Some}
use Rattle.std.proofs.Common.{◌≡◌, refl, sym, ap, ◌∙◌, [], ◌∷◌, ◌++◌, append-nil, ◌+◌, ◌-◌, ◌≤◌, length, drop, length-append, drop_of_length-le, arith, le-ltb}
use Rattle.numbers.specs.Several.{nothing, some, many}
use Rattle.decoding.specs.Place.{stored, stored_from, ended}
use Rattle.numbers.specs.SeveralLaws.{not_some}
use Rattle.decoding.specs.PlaceLaws.{Ran, ran, value-is, bad-is, many-bad, joined, joined-nil, joined_step, stored-end, store-next}
use Rattle.decoding.proofs.read_numbers.Goals as goal

pub loop-slot-init : goal.loop-slot-init
loop-slot-init c =
    let a = c.args in
    let n = length a.room.now in
    let all : n - 0 ≡ n = omega arith in
    ([], c.if-bytes-at.false, refl, refl, rw all (joined-nil (many n (drop a.at a.bytes.now))))

pub returns-in_err-n : goal.returns-in_err-n
returns-in_err-n c =
    let a = c.args in
    let s = a.bytes.now in
    let v = c.loop-slot.invariant in
    let n = length a.room.now - c.loop-slot.slot-index in
    let counted : Ran s a.at (length a.room.now) c.in_ok-last.last =
    ran s a.at (length a.room.now) _ (λ i. (c.type_inv.bytes i).fits) c.if-bytes-at.false (sym c.in_ok-last.ensures) in
    let none : many n (drop c.loop-slot.from s) ≡ nothing = many-bad n (drop c.loop-slot.from s) (omega arith) (bad-is s c.loop-slot.from (sym c.in_err-n.ensures)) in
    absurd (not_some counted.list (drop c.in_ok-last.last s) (ap (joined v.0) (sym none) ∙ sym v.4 ∙ counted.is))

pub loop-slot-preserved : goal.loop-slot-preserved
loop-slot-preserved c =
    let r = c.args in
    let s = r.bytes.now in
    let n = length r.room.now in
    let i = c.loop-slot.slot-index in
    let v = c.loop-slot.invariant in
    let a = v.0 in
    let x = c.in_ok-n.n in
    let next = c.in_ok-n.next in
    let m = value-is s c.loop-slot.from x next (sym c.in_ok-n.ensures) in
    let z : n - i - 1 ≡ n - (i + 1) = omega arith in
    (a ++ (x ∷ []), m.inside, length-append a (x ∷ []) ∙ omega (arith, v.2), rw v.3 (store-next a r.room.now i x v.2 c.loop-slot-test.true), v.4 ∙ joined_step a s (n - i) c.loop-slot.from x next (omega arith) m ∙ ap (λ k. joined (a ++ (x ∷ [])) (many k (drop next s))) z)

pub returns : goal.returns
unfolding many
returns c =
    let r = c.args in
    let s = r.bytes.now in
    let room = r.room.now in
    let within : stored_from s r.at room ≡ stored s room (many (length room) (drop r.at s)) = rw (le-ltb (length s) r.at c.if-bytes-at.false) in
    let v = c.loop-slot.invariant in
    let a = v.0 in
    let z : length room - c.loop-slot.slot-index ≡ 0 = omega arith in
    let all : many (length room) (drop r.at s) ≡ some a (drop c.loop-slot.from s) = v.4 ∙ rw (z, append-nil a) in
    let past : length room ≤ c.loop-slot.slot-index = omega arith in
    let full : a ++ drop c.loop-slot.slot-index room ≡ a = rw (drop_of_length-le room past, append-nil a) in
    let ended-last : ended s (many (length room) (drop r.at s)) ≡ Some c.in_ok-last.last = sym c.in_ok-last.ensures in
    (rw within (sym (stored-end s room (many (length room) (drop r.at s)) ∙ ended-last)), rw (within, all) (v.3 ∙ full))
