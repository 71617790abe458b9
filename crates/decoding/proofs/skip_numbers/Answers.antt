-- The end of all the numbers is the end of those that are left.
use Rattle.std.proofs.Common.{◌≡◌, sym, ap, ◌∙◌, ◌+◌, ◌-◌, drop, arith}
use Rattle.numbers.specs.Several.{many}
use Rattle.decoding.specs.Place.{ended}
use Rattle.decoding.specs.PlaceLaws.{value-is, bad-is, many-bad, ended-step, ended-none}
use Rattle.decoding.proofs.skip_numbers.Goals as goal

pub loop-init : goal.loop-init
loop-init c =
    let a = c.args in
    let all : a.n ≡ a.n - 0 = omega arith in
    (c.requires, ap (λ k. ended a.bytes.now (many k (drop a.at a.bytes.now))) all)

pub returns-in_err-next : goal.returns-in_err-next
returns-in_err-next c =
    let s = c.args.bytes.now in
    let left = c.args.n - c.loop.counter in
    c.from_residual.ensures ∙ sym (c.loop.invariant.1 ∙ ap (ended s) (many-bad left (drop c.loop.place s) (omega arith) (bad-is s c.loop.place (sym (c.in_err-next.ensures)))))

pub loop-preserved : goal.loop-preserved
loop-preserved c =
    let s = c.args.bytes.now in
    let left = c.args.n - c.loop.counter in
    let m = value-is s c.loop.place c.in_ok-next.field-0-0 c.in_ok-next.next (sym (c.in_ok-next.ensures)) in
    let fewer : left - 1 ≡ c.args.n - (c.loop.counter + 1) = omega arith in
    (m.inside, c.loop.invariant.1 ∙ ended-step s left c.loop.place _ _ (omega arith) m ∙ ap (λ k. ended s (many k (drop c.in_ok-next.next s))) fewer)

pub returns : goal.returns
returns c =
    let s = c.args.bytes.now in
    let v = c.loop.invariant in
    let none : c.args.n - c.loop.counter ≡ 0 = omega arith in
    sym (v.1 ∙ rw none (ended-none s c.loop.place v.0))
