-- The sizes of an account's numbers on a day: `trades` of the day so far, `days` that may have been closed.
use Rattle.std.specs.Prelude.{ℕ}
use Rattle.holdings.specs.Bounds as holdings
use Rattle.funds.specs.Bounds as funds
use Rattle.accounts.specs.declared.Account.{Account}

pub record Sound (trades days : ℕ) (a : Account) : Type 0 where
  pub holdings : holdings.Sound trades a.holdings
  pub funds : funds.Sound days a.funds
