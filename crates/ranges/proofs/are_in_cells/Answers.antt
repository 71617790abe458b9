-- The library's test of all cells, each beside its two ends.
use Rattle.std.proofs.Common.{◌∙◌, rules, arith}
use borrow.Author.Tests.{tests}
use Rattle.std.proofs.lemmas.Iterator.{YieldsList-from_slice, YieldsList-from_zip}
use Rattle.std.proofs.lemmas.Iterator.Search.{all_from_yields_List}
use Rattle.fields.specs.Fields.{fields_of}
use Rattle.ranges.specs.CellLaws.{between_ends, zipped-within}
use Rattle.ranges.proofs.are_in_cells.Goals as goal

pub returns : goal.returns
returns c =
    let row = c.row_of-row.result in
    all_from_yields_List between_ends c.all.new.self _ c.all.result c.all.ensures.ran
    (YieldsList-from_zip (YieldsList-from_slice c.args.fields cc) (YieldsList-from_zip (YieldsList-from_slice row.least cc) (YieldsList-from_slice row.greatest cc))) (λ x b q k. search (rules, tests))
    ∙ zipped-within (fields_of c.args.kind) c.args.fields row (omega arith) c.row_of-row.ensures
