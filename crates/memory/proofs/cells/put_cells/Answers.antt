use Rattle.memory.proofs.Written.{written-more}
use Rattle.memory.proofs.cells.put_cells.Goals as goal

pub loop-i-preserved : goal.loop-i-preserved
loop-i-preserved g c =
    let l = c.loop-i in
    rw (← c.index-cells-i.is) at
    (written-more c.args.first c.args.cells.now c.args.memory.now c.requires l.memory l.i l.invariant c.index-cells-i.result c.loop-i-test.true)
