-- The doubling stops past the end, where nothing is left out, or at an exception that is later than the day; those behind are later still.
use Rattle.std.proofs.Common.{arith}
use Rattle.days.specs.DayLaws.{rising-sorted}
use Rattle.days.proofs.reach.Goals as goal
use Rattle.days.proofs.reach.Goals.{then-loop-most-test+else-exceptions-most, else-loop-most-test}

pub returns-clause-behind : goal.returns-clause-behind
returns-clause-behind c = λ k a b. elim c.loop-most-test.branch [
  | then-loop-most-test+else-exceptions-most w ↦
      omega (arith, w.if-exceptions-most.false, c.min.ensures, rising-sorted c.args.exceptions.now c.requires c.loop-most.most k (omega arith) b)
  | else-loop-most-test w ↦ absurd (omega (arith, w.loop-most-test.false, c.min.ensures))
]
