use mathlib.Core.Path.{◌≡◌}
use lib.ListN.{get_or}
use Rattle.lists.specs.Written.{written}
use Rattle.positions.specs.Deals.{flat}
use Rattle.memory.specs.Rows.{position_cells}
use Rattle.memory.proofs.account_rows.put_positions.Given as goal

-- the first k positions are written
abbrev pub invariant-loop-k : goal.invariant-loop-k
invariant-loop-k l = l.row ≡ written position_cells 3 (λ i. get_or l.fn.h.positions i flat) l.initial.row l.k
