use Rattle.lists.specs.Parts.{part-width}
use Rattle.memory.proofs.account_rows.load_account.Goals as goal

pub returns : goal.returns
returns c = rw (c.holdings_in.ensures, c.funds_in.ensures) (simp part-width)
