-- antt computes the whole table from the definitions, and finds it to be the code's: `refl`.
use mathlib.Core.Path.{refl}
use Rattle.fields.specs.Fields.{kinds, ceilings}
use Rattle.ranges.specs.Cells.{ends}
use Rattle.ranges.specs.CellLaws.{row_at}
use Rattle.ranges.proofs.row_of.Goals as goal

pub returns : goal.returns
unfolding kinds ceilings ends
returns c = row_at _ c.args.kind _ c.requires refl
