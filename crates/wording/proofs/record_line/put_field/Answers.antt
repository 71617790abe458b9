use native.Mathlib.Omega.{arith}
use Rattle.decimal.proofs.PutLaws.{put-more}
use Rattle.wording.specs.Text.{style_of}
use Rattle.wording.specs.TextLaws.{label-length, value-length}
use Rattle.wording.proofs.record_line.put_field.Goals as goal

pub put_value-requires : goal.put_value-requires
put_value-requires c = omega (arith, c.requires.1, c.put_label-next.ensures.place, label-length c.args.kind c.args.field)

pub returns : goal.returns
returns c =
    let a = c.args in
    put-more (omega (arith, c.requires.1, label-length a.kind a.field, value-length (style_of a.kind a.field) a.value))
    c.put_label-next.ensures (rw c.style_of.ensures at c.put_value.ensures)
