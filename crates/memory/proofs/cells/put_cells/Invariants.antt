use Rattle.memory.proofs.Written.{Written}
use Rattle.memory.proofs.cells.put_cells.Given as goal

abbrev pub invariant-loop-i : goal.invariant-loop-i
invariant-loop-i g l = Written l.first l.cells l.initial.memory l.memory l.i
