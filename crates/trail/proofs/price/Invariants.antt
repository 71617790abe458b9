use Rattle.trail.specs.Tables.{Priced}
use Rattle.trail.proofs.price.Given as goal

-- the rows that the loop has passed are priced
abbrev pub invariant-loop-i : goal.invariant-loop-i
invariant-loop-i l = Priced l.counts l.initial.money l.i l.code l.rate l.sum l.money
