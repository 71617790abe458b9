use Rattle.standing.specs.Standing.{view}
use Rattle.desk.specs.LineLaws.{LinedTo}
use Rattle.desk.proofs.contract_lines.close_lines.Given as goal

abbrev pub invariant-loop-k : goal.invariant-loop-k
invariant-loop-k l = LinedTo (view l.counts l.money) l.labels l.initial.amounts l.used l.fn.before l.k l.lines l.amounts
