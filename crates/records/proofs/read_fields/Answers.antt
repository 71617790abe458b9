-- The row so far holds the numbers passed, with zeros after them.
use Rattle.std.proofs.Common.{◌≡◌, refl, sym, ap, ◌∙◌, List, [], ◌∷◌, ◌++◌, append-nil, ℕ, ◌+◌, ◌-◌, ◌≤◌, length, take, drop, replicate, length-append, drop_of_length-le, arith}
use Rattle.std.proofs.lemmas.List.{drop-replicate, length-take-le}
use Rattle.numbers.specs.Several.{many}
use Rattle.decoding.specs.PlaceLaws.{value-is, bad-is, many-bad, joined, joined-nil, joined_step, end-here, store-next}
use Rattle.records.specs.Steps.{filled}
use Rattle.records.proofs.read_fields.Goals as goal

-- the row's first fields, before they are read
abbrev zeros : ℕ → List ℕ
zeros n = take n (replicate 13 0)

long : (n : ℕ) → n ≤ 13 → length (zeros n) ≡ n
long n h = length-take-le n (replicate 13 0) h

pub loop-value-init : goal.loop-value-init
loop-value-init c =
    let a = c.args in
    let all : a.n - 0 ≡ a.n = omega arith in
    ([], c.requires.0, refl, refl, rw all (joined-nil (many a.n (drop a.at a.bytes.now))))

pub returns-in_err-x : goal.returns-in_err-x
returns-in_err-x c =
    let s = c.args.bytes.now in
    let n = c.args.n in
    let p = c.loop-value.place in
    let v = c.loop-value.invariant in
    let left = n - c.loop-value.value-index in
    c.from_residual.ensures ∙ sym (ap (filled s) (v.4 ∙ ap (joined v.0) (many-bad left (drop p s) (omega (arith, long n c.requires.1)) (bad-is s p (sym c.in_err-x.ensures)))))

pub loop-value-preserved : goal.loop-value-preserved
loop-value-preserved c =
    let s = c.args.bytes.now in
    let n = c.args.n in
    let i = c.loop-value.value-index in
    let p = c.loop-value.place in
    let v = c.loop-value.invariant in
    let a = v.0 in
    let x = c.in_ok-x.x in
    let next = c.in_ok-x.next in
    let m = value-is s p x next (sym c.in_ok-x.ensures) in
    let fewer : n - i - 1 ≡ n - (i + 1) = omega arith in (
      a ++ (x ∷ []),
      m.inside,
      length-append a (x ∷ []) ∙ omega (arith, v.2),
      rw v.3 (store-next a (zeros n) i x v.2 c.loop-value-test.true),
      v.4 ∙ joined_step a s (n - i) p x next (omega (arith, long n c.requires.1)) m ∙ ap (λ k. joined (a ++ (x ∷ [])) (many k (drop next s))) fewer,
    )

pub returns : goal.returns
unfolding many
returns c =
    let s = c.args.bytes.now in
    let n = c.args.n in
    let i = c.loop-value.value-index in
    let v = c.loop-value.invariant in
    let a = v.0 in
    let all : i ≡ n = omega (arith, long n c.requires.1) in
    let none : n - i ≡ 0 = omega arith in
    let past : length (zeros n) ≤ i = c.loop-value-test.false in
    rw (v.4, none, append-nil a, end-here s c.loop-value.place v.1, v.2, v.3, drop_of_length-le (zeros n) past, append-nil a, drop-replicate {X = ℕ} n 13 0, all)
