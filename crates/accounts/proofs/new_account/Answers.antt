use Rattle.accounts.proofs.new_account.Goals as goal

pub returns : goal.returns
returns c = rw (c.new_holdings-holdings.ensures, c.new_funds-funds.ensures)
