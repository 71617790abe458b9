-- The whole number is what the groups passed make with those that are left (`onward`).
use Rattle.std.proofs.Common.{◌≡◌, refl, sym, ap, ◌∙◌, List, ℕ, ◌+◌, ◌*◌, ◌-◌, ◌^◌, ◌≤◌, ◌<◌, length, get_or, take, drop, length-drop, arith}
use Rattle.std.proofs.lemmas.List.{take_all, get_or-drop}
use Rattle.decoding.specs.Place.{placed}
use Rattle.decoding.specs.Groups.{last_group, at-end, at_one, at_more, step_end, step-more, step-over, step-last, scale-before, scale-under, scale-more, sum-under, sum_below}
use Rattle.decoding.proofs.read_number.Goals as goal
use Rattle.decoding.proofs.read_number.Goals.{After-from-byte, Else-scale}

left : (s : List ℕ) (p : ℕ) → take (length s - p) (drop p s) ≡ drop p s
left s p = take_all (length s - p) (drop p s) (omega (arith, length-drop p s))

byte_at : (s : List ℕ) (p i : ℕ) → get_or (take (length s - p) (drop p s)) i 0 ≡ get_or s (p + i) 0
byte_at s p i = ap (λ (l : List ℕ). get_or l i 0) (left s p) ∙ get_or-drop p s i 0

-- the byte's place in all of the bytes
byte : (c : After-from-byte) → let p = c.args.at + 1 + c.loop-i.i in (c.from-byte.result ≡ get_or c.args.bytes.now p 0) × (p < length c.args.bytes.now)
byte c =
    let s = c.args.bytes.now in
    let p = c.args.at + 1 in
    (c.from-byte.ensures ∙ byte_at s p c.loop-i.i, omega (arith, ap length (left s p), length-drop p s))

pub returns-then-bytes-at : goal.returns-then-bytes-at
returns-then-bytes-at c = sym (at-end _ _ c.if-bytes-at.true)

pub returns-then-first-lt128 : goal.returns-then-first-lt128
returns-then-first-lt128 c = rw c.from-first.ensures (sym (at_one _ _ c.if-bytes-at.false (omega arith)))

pub loop-i-init : goal.loop-i-init
loop-i-init c =
    let start : c.args.at + 1 + 0 ≡ c.args.at + 1 = omega arith in
    (omega arith, omega (arith, c.type_inv.bytes c.args.at), refl, rw (start, c.from-first.ensures) (at_more _ _ c.if-bytes-at.false (omega arith)))

pub returns-then-byte-lt128 : goal.returns-then-byte-lt128
returns-then-byte-lt128 c =
    let s = c.args.bytes.now in
    let b = byte (goal.at.returns-then-byte-lt128 c).After-from-byte in
    let v = c.loop-i.invariant in
    let next : c.args.at + 1 + c.loop-i.i + 1 ≡ c.args.at + c.loop-i.i + 2 = omega arith in
    c.with_last.ensures
    ∙ ap (λ g. last_group c.loop-i.value c.loop-i.scale g (c.args.at + c.loop-i.i + 2)) b.0
    ∙ sym (ap (placed s) v.3 ∙ step-last s _ _ _ b.1 (omega (arith, b.0)) ∙ ap (last_group c.loop-i.value c.loop-i.scale _) next)

pub returns-then-scale : goal.returns-then-scale
returns-then-scale c =
    let s = c.args.bytes.now in
    let b = byte (goal.at.returns-then-scale c).After-from-byte in
    let v = c.loop-i.invariant in
    sym (ap (placed s) (v.3 ∙ step-over _ _ _ _ b.1 (omega (arith, b.0)) (omega arith)))

-- the byte's group, and that with it the number still fits
group : (c : Else-scale) → c.from-byte.result - 128 < 128
group c =
    let b = byte (goal.at.Else-scale c).After-from-byte in
    omega (arith, b.0, c.type_inv.bytes (c.args.at + 1 + c.loop-i.i))

room : (c : Else-scale) → c.loop-i.scale ≤ 2 ^ 56
room c =
    let v = c.loop-i.invariant in
    scale-under c.loop-i.scale (c.loop-i.i + 1, omega arith, v.2) c.if-scale.false

fits : (c : Else-scale) → c.loop-i.value + (c.from-byte.result - 128) * c.loop-i.scale < 2 ^ 64
fits c = sum-under _ _ _ c.loop-i.invariant.1 (group c) (room c)

pub overflow_mul-value : goal.overflow_mul-value
overflow_mul-value c = omega (arith, fits c)

pub overflow_add-value : goal.overflow_add-value
overflow_add-value c = omega (arith, fits c)

pub overflow_mul-scale : goal.overflow_mul-scale
overflow_mul-scale c = omega (arith, room c)

pub loop-i-preserved : goal.loop-i-preserved
loop-i-preserved c =
    let s = c.args.bytes.now in
    let v = c.loop-i.invariant in
    let i = c.loop-i.i in
    let b = byte (goal.at.loop-i-preserved c).After-from-byte in
    let next : c.args.at + 1 + i + 1 ≡ c.args.at + 1 + (i + 1) = omega arith in (
      omega (arith, scale-before (i + 1) _ (omega arith) v.2 c.if-scale.false),
      sum_below _ _ _ v.1 (group c),
      scale-more _ _ v.2,
      rw (← next, b.0) (v.3 ∙ step-more _ _ _ _ b.1 (omega (arith, b.0))),
    )

pub returns : goal.returns
returns c =
    let s = c.args.bytes.now in
    let p = c.args.at + 1 in
    let past : length s ≤ p + c.loop-i.i = omega (arith, ap length (left s p), length-drop p s) in
    sym (ap (placed s) (c.loop-i.invariant.3 ∙ step_end _ _ _ _ past))
