use borrow.Author.Rules.{rules}
use Rattle.lists.specs.Parts.{part-width}
use Rattle.memory.proofs.contract_rows.load_contract.Goals as goal

pub returns : goal.returns
returns c = rw c.tally_in.ensures (simp part-width (search rules))
