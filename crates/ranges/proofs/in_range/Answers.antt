-- Each test of the code is one of the definition, in its order; cell by cell is field by field, since the shape was tested.
use Rattle.std.proofs.Common.{◌≡◌, sym, ap, ◌∙◌, true, ◌&&◌, List, ℕ, ◌≤◌, arith, length}
use Rattle.std.proofs.Math.Bool.{and-true}
use Rattle.fields.specs.Fields.{fields_of, shaped}
use Rattle.fields.specs.FieldLaws.{counts-most, shape-tells}
use Rattle.ranges.specs.Ranges.{all_within}
use Rattle.ranges.specs.Cells.{cells_within}
use Rattle.ranges.specs.CellLaws.{cells_are}
use Rattle.ranges.proofs.in_range.Goals as goal
use Rattle.ranges.proofs.in_range.Goals.{else-is_shaped-via-then-is_shaped+then-are_in_cells+then-are_days+else-are_rising, else-is_shaped-via-then-is_shaped+then-are_in_cells+else-are_days, else-is_shaped-via-then-is_shaped+else-are_in_cells, else-is_shaped-via-else-is_shaped}

cellwise : (kind : ℕ) (fields : List ℕ) (exceptions : ℕ) → length (fields_of kind) ≤ length fields → shaped kind fields exceptions ≡ true
    → all_within (fields_of kind) fields ≡ cells_within (fields_of kind) fields
cellwise kind fields exceptions h e =
    let w = all_within (fields_of kind) fields in
    sym (cells_are (fields_of kind) fields h ∙ ap (λ z. w && z) (shape-tells kind fields exceptions e).zeros ∙ and-true w)

pub are_in_cells-requires : goal.are_in_cells-requires
are_in_cells-requires c = (shape-tells _ _ _ (sym c.is_shaped.ensures ∙ c.if-is_shaped.true)).below

pub returns-then-are_rising : goal.returns-then-are_rising
returns-then-are_rising c =
    let a = c.args in
    let s = sym c.is_shaped.ensures ∙ c.if-is_shaped.true in
    rw (
      s,
      cellwise a.kind a.fields _ (omega (arith, counts-most a.kind)) s ∙ sym c.are_in_cells.ensures ∙ c.if-are_in_cells.true,
      sym c.are_days.ensures ∙ c.if-are_days.true,
      sym c.are_rising.ensures ∙ c.if-are_rising.true,
    )

pub returns-else-is_shaped : goal.returns-else-is_shaped
returns-else-is_shaped c =
    let a = c.args in
    let few : length (fields_of a.kind) ≤ length a.fields = omega (arith, counts-most a.kind) in
    elim c.else-is_shaped.branch [
      | else-is_shaped-via-then-is_shaped+then-are_in_cells+then-are_days+else-are_rising w ↦
          let s = sym c.is_shaped.ensures ∙ w.if-is_shaped.true in
          rw (s, cellwise a.kind a.fields _ few s ∙ sym w.are_in_cells.ensures ∙ w.if-are_in_cells.true, sym w.are_days.ensures ∙ w.if-are_days.true, sym w.are_rising.ensures ∙ w.if-are_rising.false)
      | else-is_shaped-via-then-is_shaped+then-are_in_cells+else-are_days w ↦
          let s = sym c.is_shaped.ensures ∙ w.if-is_shaped.true in
          rw (s, cellwise a.kind a.fields _ few s ∙ sym w.are_in_cells.ensures ∙ w.if-are_in_cells.true, sym w.are_days.ensures ∙ w.if-are_days.false)
      | else-is_shaped-via-then-is_shaped+else-are_in_cells w ↦
          let s = sym c.is_shaped.ensures ∙ w.if-is_shaped.true in
          rw (s, cellwise a.kind a.fields _ few s ∙ sym w.are_in_cells.ensures ∙ w.if-are_in_cells.false)
      | else-is_shaped-via-else-is_shaped w ↦ rw (sym c.is_shaped.ensures ∙ w.if-is_shaped.false)
    ]
