use native.Mathlib.Omega.{arith}
use Rattle.tallies.specs.Tally.{in_side, side_in}
use Rattle.tallies.specs.MeanLaws.{fair-wider}
use Rattle.tallies.proofs.Tally.in_side.Goals as goal

pub with_rate-requires : goal.with_rate-requires
with_rate-requires c =
    let side = c.args.side in
    (fair-wider (side_in c.args.self side) (c.requires.0.quotes side) (omega arith), c.requires.1.1)

pub returns : goal.returns
unfolding in_side
returns c = rw c.with_rate.ensures
