use borrow.Author.Rules.{rules}
use mathlib.Core.Path.{◌∙◌}
use Rattle.std.specs.Prelude.{◌+◌, get_or}
use Rattle.day_end.proofs.ArrayLaws.{made-all}
use Rattle.book.specs.TakenLaws.{margins-tab}
use Rattle.book.proofs.calls.margins_in.Goals as goal

pub returns : goal.returns
returns c =
    made-all _ _ (λ k. get_or c.args.fields (k + 7) 0) (λ i y f' k. search rules) 0 6 _ c.from_fn.ensures.items
    ∙ margins-tab c.args.fields
