-- What positions within bounds ask for is bounded by them.
use Rattle.std.proofs.Common.{subst, mul-le-mul, arith}
use Rattle.std.specs.Prelude.{List, ℕ, ◌*◌, pos}
use Rattle.lists.specs.Zipped.{zipped, zipped-keeps}
use Rattle.whole.specs.Within.{Within, Each, within-most}
use Rattle.whole.specs.Sums.{sum_z, sum-within}
use Rattle.whole.specs.Amounts.{Amount}
use Rattle.positions.specs.Deals.{flat}
use Rattle.positions.specs.Rows.{rows_all}
use Rattle.positions.specs.Bounds.{Margins, Nets}
use Rattle.positions.specs.declared.Position.{Position}
use Rattle.positions.specs.BoundLaws.{zero-within}
use Rattle.totals.specs.Totals.{asked, total}
use Rattle.totals.proofs.TotalLaws.{total-nonneg}

pub asked-each : {most : ℕ} {ps : List Position} {margins : List ℕ} → Nets most ps → Margins margins
    → Each (most * 100000000) (zipped asked ps margins)
asked-each {most} {ps} {margins} n m = record {
  at = zipped-keeps asked (Within (most * 100000000)) (pos 0) flat 0 ps margins zero-within
      (λ i. record { size = mul-le-mul (n.at i).size (m.at i) });
}

pub total-amount : {most : ℕ} {ps : List Position} {margins : List ℕ} → Nets most ps → Margins margins
    → Amount (6 * (most * 100000000)) (total ps margins)
unfolding total
total-amount {most} {ps} {margins} n m =
    let all = zipped asked ps margins in
    let six = rows_all asked 0 ps margins n.six m.six 6 (omega arith) in
    let size = subst (Within (6 * (most * 100000000))) six (sum-within all 6 (asked-each n m)) in
    record { least = total-nonneg ps margins; most = within-most (sum_z all) size }
