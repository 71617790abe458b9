use borrow.Author.Rules.{rules}
use lib.ListN.{get_or}
use Rattle.positions.specs.Deals.{flat}
use Rattle.opening.proofs.ArrayLaws.{mapped-all}
use Rattle.opening.proofs.members.relisted_positions.Goals as goal

pub returns : goal.returns
returns c = mapped-all _ _ (λ row. get_or c.args.positions row flat) (λ x y f' k. search rules) 0 flat 6 _ _ c.map.ensures.items
