-- Each rate is read back as it was unfolded.
use borrow.Author.Rules.{rules}
use mathlib.Core.Path.{◌∙◌}
use Rattle.std.specs.Prelude.{pos, ◌+◌, get_or}
use Rattle.folding.specs.Fold.{unfolded}
use Rattle.day_end.proofs.ArrayLaws.{made-all}
use Rattle.book.specs.TakenLaws.{rates-tab}
use Rattle.book.proofs.calls.rates_in.Goals as goal

pub returns : goal.returns
returns c =
    made-all _ _ (λ k. unfolded (get_or c.args.fields (k + 1) 0)) (λ i y f' k. search rules) (pos 0) 6 _ c.from_fn.ensures.items
    ∙ rates-tab c.args.fields
