use mathlib.Core.Path.{◌≡◌, sym, ap, ◌∙◌}
use Prim.Native.Nat.{suc, ◌+◌, ◌*◌, ◌-◌, ◌<◌, ◌≤◌}
use native.Mathlib.Nat.{mul-le-mul_right}
use native.Mathlib.Omega.{arith}
use lib.ListN.{length, drop}
use Rattle.lists.specs.Tabulate.{tab}
use Rattle.reports.specs.Reports.{lower_from, lowest_from}
use Rattle.reports.specs.ReportLaws.{lowest-of-none, lowest-of-more}
use Rattle.reports.proofs.order.lowest.Goals as goal
use Rattle.reports.proofs.order.lowest.Goals.{In-loop-i}
use Rattle.reports.proofs.order.lowest.Invariants.{key_at}

-- the cell of the row at hand is one of the slice's
inside : (c : In-loop-i) →
    let a = c.args in a.first + (c.loop-i.i - 1) * a.width < length a.counts.now
inside c =
    let a = c.args in
    let i = c.loop-i.i in
    let more : (i - 1) + 1 ≤ a.rows = omega arith in
    omega (arith, mul-le-mul_right {m = (i - 1) + 1} {n = a.rows} a.width more)

pub loop-i-init : goal.loop-i-init
loop-i-init c = let a = c.args in sym (lowest-of-none a.from (key_at a.counts.now a.first a.width) a.rows)

pub loop-i-preserved : goal.loop-i-preserved
loop-i-preserved c =
    let a = c.args in
    let i = c.loop-i.i in
    let one : i ≡ suc (i - 1) = omega arith in
    let at = key_at a.counts.now a.first a.width in
    c.lower_from-found.ensures
    ∙ ap (lower_from a.from (at (i - 1))) (c.loop-i.invariant ∙ ap (λ t. lowest_from a.from (drop t (tab at a.rows))) one)
    ∙ sym (lowest-of-more a.from at a.rows (i - 1) (omega arith))
