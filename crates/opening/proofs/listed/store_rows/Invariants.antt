use Rattle.memory.specs.Layout.{Long}
use Rattle.opening.specs.Putting.{Putting}
use Rattle.opening.proofs.listed.store_rows.Given as goal

abbrev pub invariant-loop-j : goal.invariant-loop-j
invariant-loop-j l = Long l.counts l.money × Putting l.initial.counts l.initial.money l.fn.rows l.counts l.money l.j
