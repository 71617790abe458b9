-- A value behind its label: what was put is the label, and it is looked for at the place.
use mathlib.Core.Path.{◌≡◌, sym, ap, ◌∙◌}
use mathlib.Core.Bool.{false≢true}
use mathlib.Core.List.{List, ◌++◌}
use Prim.Native.Nat.{ℕ, ◌+◌, ◌≤◌}
use native.Mathlib.Omega.{arith}
use lib.ListN.{length, take, drop, length-take}
use Rattle.lists.specs.Parts.{part-rest}
use Rattle.wording.specs.Words.{label_of}
use Rattle.wording.specs.Text.{style_of, value_text}
use Rattle.wording.specs.TextLaws.{label-length}
use Rattle.parsing.specs.PlaceLaws.{put-size, put-within, put-taken, word_stands, ends-within, labelled, unlabelled}
use Rattle.parsing.proofs.parts.field_at.Goals as goal
use Rattle.parsing.proofs.parts.field_at.Goals.{After-begins_with, Else-not-begins_with}

-- the label that was put, and where it is found
module _ (c : After-begins_with) where
  abbrev text : List ℕ
  text = label_of c.args.kind c.args.field

  size_is : c.put_label-size.result ≡ length text
  size_is = put-size (label-length c.args.kind c.args.field) c.put_label-size.ensures

  text-is : take c.put_label-size.result c.put_label-size.new.room ≡ text
  text-is = put-taken (label-length c.args.kind c.args.field) c.put_label-size.ensures

module _ (c : Else-not-begins_with) where
  abbrev own : List ℕ
  own = text (goal.at.Else-not-begins_with c).After-begins_with

  label : drop c.args.at c.args.line.now ≡ own ++ drop (c.args.at + length own) c.args.line.now
  label =
      word_stands c.args.line.now own _ c.args.at (part-rest c.args.at c.args.line.now)
      (rw (text-is (goal.at.Else-not-begins_with c).After-begins_with) at (c.begins_with.ensures.0 c.if-not-begins_with.false))

  fits : c.args.at + c.put_label-size.result ≤ length c.args.line.now
  fits = rw (size_is (goal.at.Else-not-begins_with c).After-begins_with) (ends-within c.args.line.now own _ c.args.at c.requires.0 label)

pub slice_bounds-room-end : goal.slice_bounds-room-end
slice_bounds-room-end c = put-within (label-length c.args.kind c.args.field) c.put_label-size.ensures

pub slice_bounds-begins_with-end-2 : goal.slice_bounds-begins_with-end-2
slice_bounds-begins_with-end-2 c =
    simp length-take (omega (arith, put-within (label-length c.args.kind c.args.field) c.put_label-size.ensures))

pub returns-then-not-begins_with : goal.returns-then-not-begins_with
returns-then-not-begins_with c =
    let a = c.args in
    let b = (goal.at.returns-then-not-begins_with c).After-begins_with in
    unlabelled (text b) (value_text (style_of a.kind a.field)) a.line.now a.at c.requires.0
    (λ rest e.
    false≢true
    (sym c.if-not-begins_with.true
    ∙ c.begins_with.ensures.1 rest (part-rest a.at a.line.now ∙ e ∙ ap (λ l. l ++ rest) (sym (text-is b)))))

pub overflow_add-at : goal.overflow_add-at
overflow_add-at c = omega (arith, fits c)

pub value_at-requires : goal.value_at-requires
value_at-requires c = fits (goal.at.value_at-requires c).Else-not-begins_with

pub returns : goal.returns
returns c =
    let a = c.args in
    let e = (goal.at.returns c).Else-not-begins_with in
    labelled (own e) (value_text (style_of a.kind a.field)) a.line.now a.at _ (label e) c.requires.0
    (rw (size_is (goal.at.returns c).After-begins_with, c.style_of.ensures) at c.value_at.ensures)
