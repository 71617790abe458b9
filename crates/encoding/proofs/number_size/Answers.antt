-- What was counted and the groups left make the whole length.
use lib.ListN.{length}
use native.Mathlib.Omega.{arith}
use mathlib.Core.Path.{ap}
use Rattle.numbers.specs.SevenLaws.{left, groups-most, groups-last}
use Rattle.encoding.proofs.number_size.Goals as goal

pub loop-left-init : goal.loop-left-init
loop-left-init c = (9, omega arith, omega arith)

pub overflow_add-count : goal.overflow_add-count
overflow_add-count c = let v = c.loop-left.invariant in omega (arith, v.2, groups-most 10 c.args.n)

pub loop-left-preserved : goal.loop-left-preserved
loop-left-preserved c = let v = c.loop-left.invariant in let g = left v.0 _ v.1 c.loop-left-test.true in (g.fewer, g.fits, omega (arith, ap length g.is, v.2))

pub returns : goal.returns
returns c = let v = c.loop-left.invariant in omega (arith, v.2, ap length (groups-last v.0 _ c.loop-left-test.false))
