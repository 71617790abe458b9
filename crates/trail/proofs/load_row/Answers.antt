use mathlib.Core.Path.{ap₂, ◌∙◌}
use Prim.Native.Nat.{◌*◌}
use Rattle.lists.specs.Parts.{part, part-width}
use Rattle.trail.specs.Rows.{row_of}
use Rattle.trail.proofs.load_row.Goals as goal

pub returns : goal.returns
returns c =
    let a = c.args in
    c.row_in.ensures
    ∙ ap₂ (λ v w. row_of (part (a.i * 3) v a.counts.now) (part (a.i * 6) w a.money.now)) (part-width (a.i * 3) 3) (part-width (a.i * 6) 6)
