-- The room so far holds the numbers passed.
use lib.ListN.{length, take, get_or}
use native.Mathlib.Omega.{arith}
use mathlib.Core.List.{List}
use mathlib.Core.Path.{refl, sym, ap, ap₂, ◌∙◌}
use Prim.Native.Nat.{ℕ, ◌+◌}
use lib.Seq.{take_all}
use Rattle.encoding.specs.Sizes.{size_step, size-part, write_step}
use Rattle.encoding.specs.Put.{put, put-none, put-append}
use Rattle.numbers.specs.Several.{write_of}
use Rattle.numbers.specs.Seven.{encode}
use Rattle.encoding.proofs.write_numbers.Goals as goal

pub loop-n-init : goal.loop-n-init
unfolding write_of
loop-n-init c = let a = c.args in (refl, omega arith, sym (put-none a.room.now a.at))

pub write_number-place-requires : goal.write_number-place-requires
write_number-place-requires c =
    let a = c.args in
    let list = a.list.now in
    let i = c.loop-n.n-index in
    let v = c.loop-n.invariant in
    omega (arith, size_step list i c.loop-n-test.true, size-part list (i + 1), c.requires, v.0, v.1)

pub loop-n-preserved : goal.loop-n-preserved
loop-n-preserved c =
    let a = c.args in
    let list = a.list.now in
    let i = c.loop-n.n-index in
    let v = c.loop-n.invariant in
    let h = c.loop-n-test.true in
    let step = size_step list i h in
    let part = size-part list (i + 1) in
    let pre = c.requires in
    let w = c.write_number-place in
    let x = get_or list i 0 in
    (w.auto.room ∙ v.0, omega (arith, w.ensures.0, v.1), w.ensures.1 ∙ ap₂ (λ (r : List ℕ) (p : ℕ). put r p (encode x)) v.2 v.1 ∙ put-append a.room.now a.at (write_of (take i list)) (encode x) (omega arith) ∙ ap (put a.room.now a.at) (sym (write_step list i h)))

pub returns : goal.returns
returns c =
    let a = c.args in
    let e = take_all c.loop-n.n-index a.list.now c.loop-n-test.false in
    (c.loop-n.invariant.1 ∙ ap (λ z. a.at + length (write_of z)) e, c.loop-n.invariant.2 ∙ ap (λ z. put a.room.now a.at (write_of z)) e)
