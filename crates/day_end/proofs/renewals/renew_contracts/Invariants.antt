use Rattle.memory.specs.Layout.{Long}
use Rattle.standing.specs.Turns.{Turns}
use Rattle.day_end.specs.TurnLaws.{renewed_to}
use Rattle.day_end.proofs.renewals.renew_contracts.Given as goal

abbrev pub invariant-loop-k : goal.invariant-loop-k
invariant-loop-k l = Long l.counts l.money × Turns l.initial.counts l.initial.money l.counts l.money (renewed_to l.ended l.k)
