use borrow.Author.Rules.{rules}
use Rattle.memory.specs.Rows.{blank_contract}
use Rattle.opening.proofs.ArrayLaws.{made-all}
use Rattle.opening.proofs.listed.rows_for.Goals as goal

pub returns : goal.returns
returns c = made-all _ _ _ (λ i y f' k. search rules) blank_contract 6 _ c.from_fn.ensures.items
