use mathlib.Core.Path.{◌≡◌}
use Prim.Native.Nat.{◌+◌}
use native.Mathlib.Omega.{arith}
use mir.Syntax.{w64}
use mir.Val.{to_z, of_z}
use lib.IntN.{◌+ℤ◌}
use Rattle.whole.specs.Within.{Within}
use Rattle.whole.specs.Machine.{told, arg, back, fits64, passed}
use Rattle.trail.specs.Tables.{Priced}
use Rattle.trail.specs.PriceLaws.{priced-none, next-modest, priced-more, sum_fits}
use Rattle.trail.proofs.price.Goals as goal
use Rattle.trail.proofs.price.Goals.{After-price_row-sum}

pub loop-i-init : goal.loop-i-init
loop-i-init c = let a = c.args in priced-none a.code _ a.counts.now a.money.now

pub price_row-sum-requires : goal.price_row-sum-requires
price_row-sum-requires c =
    let l = c.loop-i in
    let a = c.args in
    let rate = passed (arg c.requires.within.0 tt) in record {
      i_in_bounds = (omega arith, omega (arith, l.invariant.long));
      within = (rate, next-modest a.code _ a.counts.now a.money.now l.i l.invariant c.requires.used_bound.0 rate c.requires.within.1 (omega arith));
    }

-- with one row more
more : (c : After-price_row-sum)
    → let l = c.loop-i in
    let a = c.args in
    Priced a.counts.now a.money.now (l.i + 1) a.code (to_z w64 (of_z w64 a.rate))
    (to_z w64 l.sum-bits +ℤ to_z w64 (of_z w64 c.price_row-sum.result))
    c.price_row-sum.new.money
more c =
    let l = c.loop-i in
    let a = c.args in
    let call = c.price_row-sum in
    rw (told call.result call.type_inv, call.ensures.value, call.ensures.money_after)
    (priced-more a.code _ a.counts.now a.money.now l.i l.invariant (omega arith))

sum : (c : After-price_row-sum)
    → Within 500000000000000 (to_z w64 c.loop-i.sum-bits +ℤ to_z w64 (of_z w64 c.price_row-sum.result))
sum c =
    let a = c.args in
    sum_fits a.code _ a.counts.now a.money.now (c.loop-i.i + 1) (more c) c.requires.used_bound.0
    (passed (arg c.requires.within.0 tt))
    c.requires.within.1
    (omega arith)

pub overflow_add-sum : goal.overflow_add-sum
overflow_add-sum c = fits64 (sum (goal.at.overflow_add-sum c).After-price_row-sum) tt

pub loop-i-preserved : goal.loop-i-preserved
loop-i-preserved c =
    let p = (goal.at.loop-i-preserved c).After-price_row-sum in
    rw (back (fits64 (sum p) tt)) (more p)

pub shape_of-money : goal.shape_of-money
shape_of-money c = c.loop-i.invariant.long

pub returns : goal.returns
returns c =
    let l = c.loop-i in
    let all : l.i ≡ c.args.used = omega (arith, c.loop-i-test.false) in
    rw (← all, ← (arg c.requires.within.0 tt).eq) l.invariant
