use mathlib.Core.Path.{sym, ap, ◌∙◌}
use Prim.Native.Nat.{◌≤◌}
use native.Mathlib.Omega.{arith}
use lib.ListN.{length, take, get_or, length-take}
use lib.Seq.{take_all}
use Rattle.tallies.specs.Means.{mean_of, mean_with}
use Rattle.tallies.specs.Tally.{none}
use Rattle.tallies.specs.MeanLaws.{mean-none, mean-step, each_take, fair-of, fair-wider}
use Rattle.tallies.proofs.mean_of.Goals as goal

pub loop-w-init : goal.loop-w-init
loop-w-init c = sym mean-none

pub with_rate-m-requires : goal.with_rate-m-requires
with_rate-m-requires c =
    let i = c.loop-w.w-index in
    let ws = c.args.latest in
    let passed = take i ws in
    let few : length passed ≤ 5 = omega (arith, length-take i ws, c.requires.0, c.loop-w-test.true) in
    (rw c.loop-w.invariant (fair-wider (mean_of passed) (fair-of passed (each_take i ws c.requires.1)) (omega arith)), c.requires.1.at i)

pub loop-w-preserved : goal.loop-w-preserved
loop-w-preserved c =
    let i = c.loop-w.w-index in
    let ws = c.args.latest in
    c.with_rate-m.ensures ∙ ap (λ m. mean_with m (get_or ws i none)) c.loop-w.invariant ∙ sym (mean-step ws i (omega (arith, c.requires.0, c.loop-w-test.true)))

pub returns : goal.returns
returns c = c.loop-w.invariant ∙ ap mean_of (take_all c.loop-w.w-index c.args.latest (omega (arith, c.requires.0, c.loop-w-test.false)))
