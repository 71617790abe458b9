use Rattle.standing.specs.CloseRows.{closed_row}
use Rattle.standing.specs.WalkLaws.{walked}
use Rattle.standing.specs.Turns.{Turns}
use Rattle.day_end.proofs.bookings.close_accounts.Given as goal

abbrev pub invariant-loop-i : goal.invariant-loop-i
invariant-loop-i l = Turns l.initial.counts l.initial.money l.counts l.money (λ r. walked r (closed_row l.ended l.d) l.i)
