-- The run counted is the run of days off that ends with the day; while no run is longer than 14, no long break has ended.
use mathlib.Core.Path.{◌≡◌, refl, sym, ap, ◌∙◌}
use Prim.Native.Nat.{◌+◌}
use Rattle.days.specs.Days.{is_working, no_long_break}
use Rattle.days.specs.DayLaws.{off_run, run_on, run-off, short-run, long-run}
use native.Mathlib.Omega.{arith}
use Rattle.days.proofs.is_accepted.Goals as goal
use Rattle.days.proofs.is_accepted.Goals.{Joined-is_working, then-is_working, else-is_working}

pub loop-counted-init : goal.loop-counted-init
unfolding off_run no_long_break
loop-counted-init c = (refl, omega arith, refl)

-- the run after the day is counted, by whether the day is working
run_is : (c : Joined-is_working) → c.if-is_working.run ≡ off_run (is_working c.args.exceptions.now) (c.loop-counted.counted + 1)
run_is c = elim c.if-is_working.branch [
  | then-is_working x ↦ x.run-is ∙ sym (run_on (is_working c.args.exceptions.now) c.loop-counted.counted (sym c.is_working.ensures ∙ x.if-is_working.true))
  | else-is_working x ↦
      x.run-is ∙ ap (λ n. n + 1) c.loop-counted.invariant.0
      ∙ sym (run-off (is_working c.args.exceptions.now) c.loop-counted.counted (sym c.is_working.ensures ∙ x.if-is_working.false))
]

pub returns-then-run-gt14 : goal.returns-then-run-gt14
returns-then-run-gt14 c =
    sym (long-run (is_working c.args.exceptions.now) c.loop-counted.counted c.loop-counted-test.true
    (omega (arith, run_is (goal.at.returns-then-run-gt14 c).Joined-is_working)))

pub loop-counted-preserved : goal.loop-counted-preserved
loop-counted-preserved c =
    let counted = run_is (goal.at.loop-counted-preserved c).Joined-is_working in
    let short = c.if-run-gt14.false in
    (counted, short, short-run _ _ (rw (← counted) short) c.loop-counted.invariant.2)

pub returns : goal.returns
returns c =
    let z : c.loop-counted.counted ≡ 3653 = omega arith in
    sym (rw z at c.loop-counted.invariant.2)
