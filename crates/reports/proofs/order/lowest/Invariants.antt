use mathlib.Core.Path.{◌≡◌}
use mathlib.Core.List.{List}
use Prim.Native.Nat.{ℕ, ◌+◌, ◌*◌}
use lib.ListN.{get_or, drop}
use Rattle.lists.specs.Tabulate.{tab}
use Rattle.reports.specs.Reports.{lowest_from}
use Rattle.reports.proofs.order.lowest.Given as goal

abbrev pub key_at : List ℕ → ℕ → ℕ → ℕ → ℕ
key_at counts first width i = get_or counts (first + i * width) 0

abbrev pub invariant-loop-i : goal.invariant-loop-i
invariant-loop-i l = l.found ≡ lowest_from l.from (drop l.i (tab (key_at l.counts l.first l.width) l.rows))
