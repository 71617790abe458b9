use Rattle.lists.specs.Parts.{part-width}
use Rattle.memory.proofs.account_rows.store_account.Goals as goal

pub returns : goal.returns
returns c = (
  rw (c.put_cells.ensures, c.account_counts.ensures),
  rw c.put_account_money.ensures (simp part-width),
)
