use mathlib.Core.Path.{sym, ap, ◌∙◌}
use Rattle.accounts.specs.Accounts.{with_holdings}
use Rattle.accounts.specs.CloseLaws.{refreshed-default, refreshed-clear}
use Rattle.accounts.proofs.refresh_account.Goals as goal

pub returns-then-funds : goal.returns-then-funds
returns-then-funds c = sym (refreshed-default c.args.reference c.args.a c.if-funds.true)

pub returns : goal.returns
returns c =
    let left = c.before.before in
    ap (with_holdings c.args.a) c.with_full_core-holdings.ensures
    ∙ sym (refreshed-clear c.args.reference c.args.a c.if-funds.false)
