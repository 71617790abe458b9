use mathlib.Core.Path.{◌≡◌, refl, ◌∙◌}
use native.Mathlib.Omega.{arith}
use lib.ListN.{get_or}
use Rattle.lists.specs.Tabulate.{tab}
use Rattle.lists.specs.Block.{block}
use Rattle.lists.specs.Written.{written_next, written_all}
use Rattle.positions.specs.Deals.{flat}
use Rattle.memory.specs.Rows.{position_cells}
use Rattle.memory.proofs.account_rows.put_positions.Goals as goal

pub loop-k-init : goal.loop-k-init
unfolding tab block
loop-k-init c = refl

pub loop-k-preserved : goal.loop-k-preserved
loop-k-preserved c =
    rw (c.put_cells.ensures, c.position_cells.ensures, c.loop-k.invariant)
    (written_next position_cells 3 (λ p. refl) (λ i. get_or c.args.h.positions i flat) c.args.row.now c.loop-k.k (omega (arith, c.requires)))

pub returns : goal.returns
unfolding tab
returns c =
    let all : c.loop-k.k ≡ 6 = omega arith in
    c.loop-k.invariant ∙ rw all (written_all position_cells 3 (λ p. refl) (λ i. get_or c.args.h.positions i flat) c.args.row.now 6 c.requires)
