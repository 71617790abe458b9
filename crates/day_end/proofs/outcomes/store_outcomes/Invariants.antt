use Rattle.standing.specs.Turns.{Turns}
use Rattle.day_end.specs.TurnLaws.{priced_to}
use Rattle.day_end.proofs.outcomes.store_outcomes.Given as goal

abbrev pub invariant-loop-k : goal.invariant-loop-k
invariant-loop-k l = Turns l.initial.counts l.initial.money l.counts l.money (priced_to l.final_rate l.k)
