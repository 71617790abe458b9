-- The line of what was read is put, with room for the exceptions that it announces.
use mathlib.Core.Path.{ap, ◌∙◌}
use Prim.Native.Nat.{◌≤◌}
use lib.ListN.{length-take}
use lib.Seq.{length-take-le}
use native.Mathlib.Omega.{arith}
use Rattle.std.specs.Result.{result_ok}
use Rattle.records.specs.ReadingLaws.{Stands}
use Rattle.packing.specs.LineLaws.{read-stands, announced-few, stands-shaped, line-next, line-none}
use Rattle.packing.proofs.unpacked.put_line.Goals as goal
use Rattle.packing.proofs.unpacked.put_line.Goals.{In_ok-read, After-announced-count}

stands : (c : In_ok-read) → let r = c.in_ok-read.read in Stands c.args.bytes.now c.args.at r.next r.kind r.fields r.more
stands c = read-stands (λ i. (c.type_inv.bytes i).fits) _ (c.in_ok-read.ensures.value ∙ ap result_ok c.read_record.ensures)

few : (c : After-announced-count) → c.announced-count.result ≤ 400
few c = rw c.announced-count.ensures (announced-few (stands (goal.at.After-announced-count c).In_ok-read))

pub returns-in_err-read : goal.returns-in_err-read
returns-in_err-read c =
    rw c.from_residual.ensures (line-none _ _ _ _ (c.in_err-read.ensures.value ∙ ap result_ok c.read_record.ensures))

pub slice_bounds-list-end : goal.slice_bounds-list-end
slice_bounds-list-end c = omega (arith, few (goal.at.slice_bounds-list-end c).After-announced-count)

pub slice_bounds-put_read-end : goal.slice_bounds-put_read-end
slice_bounds-put_read-end c = simp length-take (omega (arith, few (goal.at.slice_bounds-put_read-end c).After-announced-count))

pub put_read-after-requires : goal.put_read-after-requires
put_read-after-requires c =
    let at = goal.at.put_read-after-requires c in
    (stands-shaped (stands at.In_ok-read) (length-take-le _ _ (omega (arith, few at.After-announced-count)) ∙ c.announced-count.ensures), c.requires)

pub returns : goal.returns
returns c =
    let at = goal.at.returns c in
    line-next (stands at.In_ok-read) _ (length-take-le _ _ (omega (arith, few at.After-announced-count)) ∙ c.announced-count.ensures) c.put_read-after.ensures
