-- The library's test of all fields from the place on.
use Rattle.std.proofs.Common.{◌∙◌, rules, drop}
use borrow.Author.Tests.{tests}
use Rattle.std.proofs.lemmas.Iterator.{YieldsList-from_slice}
use Rattle.std.proofs.lemmas.Iterator.Adapters.{YieldsList-from_skip}
use Rattle.std.proofs.lemmas.Iterator.Search.{all_from_yields_List}
use Rattle.fields.specs.Fields.{is_zero}
use Rattle.fields.specs.FieldLaws.{all-listed}
use Rattle.fields.proofs.are_zero.Goals as goal

pub returns : goal.returns
returns c =
    all_from_yields_List is_zero _ _ c.all.result c.all.ensures.ran
    (YieldsList-from_skip c.args.first (YieldsList-from_slice c.args.fields cc) cc) (λ x b q k. search (rules, tests))
    ∙ all-listed is_zero (drop c.args.first c.args.fields)
