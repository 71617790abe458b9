use borrow.Author.Rules.{rules}
use Rattle.lists.specs.Seek.{seek}
use Rattle.memory.specs.Layout.{header_at, code_at}
use Rattle.standing.specs.OpenRows.{place_found}
use Rattle.opening.proofs.ArrayLaws.{mapped-all}
use Rattle.opening.proofs.listed.places_of.Goals as goal

pub returns : goal.returns
returns c =
    let counts = c.args.counts.now in
    mapped-all _ _ (λ code. place_found (seek (code_at counts) code (header_at counts).listed 0)) (λ x y f' k. search rules) 0 0 6 _ _ c.map.ensures.items
