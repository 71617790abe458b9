use mathlib.Core.Path.{sym, ◌∙◌}
use Prim.Native.Nat.{◌≤◌}
use native.Mathlib.Omega.{arith}
use lib.ListN.{length, take, length-append}
use Rattle.lists.specs.Block.{block}
use Rattle.decimal.proofs.PutLaws.{put-more}
use Rattle.fields.specs.Fields.{count}
use Rattle.fields.specs.FieldLaws.{shape-tells, counted, uncounted, counts-most}
use Rattle.wording.specs.Text.{fields_text, exception_text}
use Rattle.wording.specs.TextLaws.{word-length, own-length, exceptions-length}
use Rattle.wording.proofs.record_line.put_record.Goals as goal

pub returns-in_default : goal.returns-in_default
returns-in_default c =
    let a = c.args in
    let shape = shape-tells a.kind a.fields (length a.exceptions.now) c.requires.0 in
    absurd (omega (arith, shape.below, uncounted a.kind (sym c.count_of.ensures ∙ c.in_default.is)))

pub put_kind-word-requires : goal.put_kind-word-requires
put_kind-word-requires c =
    let known = counted c.args.kind _ (sym c.count_of.ensures ∙ c.in-Some.is) in
    (known.0, omega (arith, c.requires.1))

pub put_fields-last-requires : goal.put_fields-last-requires
put_fields-last-requires c =
    let a = c.args in
    let known = counted a.kind _ (sym c.count_of.ensures ∙ c.in-Some.is) in (
      known.1,
      (
        omega (arith, known.1, counts-most a.kind),
        omega (arith, c.requires.1, c.put_kind-word.ensures.place, word-length a.kind),
      ),
    )

pub put_exceptions-requires : goal.put_exceptions-requires
put_exceptions-requires c =
    let a = c.args in
    let shape = shape-tells a.kind a.fields (length a.exceptions.now) c.requires.0 in
    let own = c.put_fields-last.ensures.place in (
      omega (arith, shape.few, shape.there),
      omega (arith, c.requires.1, c.put_kind-word.ensures.place, own, word-length a.kind, own-length a.kind a.fields),
    )

pub returns : goal.returns
returns c =
    let a = c.args in
    let shape = shape-tells a.kind a.fields (length a.exceptions.now) c.requires.0 in
    let few : length (block exception_text a.exceptions.now) ≤ 8400 =
    omega (arith, shape.few, shape.there, exceptions-length a.exceptions.now) in
    let own = own-length a.kind a.fields in
    let first = word-length a.kind in
    let both = length-append (fields_text a.kind 0 (take (count a.kind) a.fields)) (block exception_text a.exceptions.now) in
    put-more (omega (arith, c.requires.1, few, own, first, both)) c.put_kind-word.ensures
    (put-more (omega (arith, c.requires.1, few, own, first, c.put_kind-word.ensures.place)) c.put_fields-last.ensures c.put_exceptions.ensures)
