use Rattle.memory.specs.Layout.{Long}
use Rattle.standing.specs.WalkLaws.{walked}
use Rattle.standing.specs.OpenRows.{relisted}
use Rattle.standing.specs.Turns.{Turns}
use Rattle.opening.proofs.members.relist_members.Given as goal

abbrev pub invariant-loop-i : goal.invariant-loop-i
invariant-loop-i l =
    Long l.counts l.money × Turns l.initial.counts l.initial.money l.counts l.money (λ r. walked r (relisted l.places) l.i)
