use native.Mathlib.Omega.{arith}
use Rattle.opening.specs.Putting.{still-long, putting-more}
use Rattle.opening.proofs.listed.store_rows.Goals as goal

pub loop-j-preserved : goal.loop-j-preserved
loop-j-preserved c =
    let put = c.store_contract in (
      still-long c.loop-j.invariant.0 put.auto.counts put.auto.money,
      putting-more _ _ _ c.requires.1 c.loop-j.invariant.1 _ (omega (arith, c.requires.1.six))
          put.ensures.0
          put.ensures.1,
    )
