-- The library's test of all exceptions.
use Rattle.std.proofs.Common.{◌∙◌, rules}
use borrow.Author.Tests.{tests}
use Rattle.std.proofs.lemmas.Iterator.{YieldsList-from_slice}
use Rattle.std.proofs.lemmas.Iterator.Search.{all_from_yields_List}
use Rattle.fields.specs.Fields.{day}
use Rattle.fields.specs.FieldLaws.{all-listed}
use Rattle.ranges.specs.Ranges.{within_ceilings}
use Rattle.ranges.specs.RangeLaws.{day-written}
use Rattle.ranges.proofs.are_days.Goals as goal

pub returns : goal.returns
returns c =
    all_from_yields_List (within_ceilings day) _ _ c.all.result c.all.ensures.ran
    (YieldsList-from_slice c.args.exceptions.now cc) (λ x b q k. search (rules, tests, day-written))
    ∙ all-listed (within_ceilings day) c.args.exceptions.now
