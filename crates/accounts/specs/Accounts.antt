-- An account as document 01 joins what it holds and what it has.
use Rattle.std.specs.Prelude.{cond, ℕ}
use Rattle.holdings.specs.Holdings.{new_holdings}
use Rattle.holdings.specs.declared.Limits.{Limits}
use Rattle.holdings.specs.declared.Holdings.{Holdings}
use Rattle.closing.specs.DayEnd.{at_close, requirement, full_core, with_core, with_core_by}
use Rattle.closing.specs.declared.DayEnd.{DayEnd}
use Rattle.funds.specs.Funds.{new_funds, billed}
use Rattle.funds.specs.declared.Funds.{Funds}
use Rattle.accounts.specs.declared.Account.{Account}

-- Document 01, Trade: "A new account has ..".
abbrev pub new_account : ℕ → Limits → ℕ → Account
new_account number limits reference = record {
  number = number;
  holdings = new_holdings limits reference;
  funds = new_funds;
}

-- ---- close
-- the bill: variation and requirement of what the account holds at the close
abbrev pub bill_of : DayEnd → Holdings → Funds → Funds
bill_of d h f = billed f h.variation (requirement h d.reference d.multiplier)

-- Document 01, Close, in its order: what the account holds at the close; its bill; the core by the sign of free.
unfoldable pub closed : DayEnd → Account → Account
closed d a = record {
  number = a.number;
  holdings = with_core_by (at_close d a.holdings) d.reference (bill_of d (at_close d a.holdings) a.funds).free;
  funds = bill_of d (at_close d a.holdings) a.funds;
}

-- ---- refresh
abbrev pub with_holdings : Account → Holdings → Account
with_holdings a h = record { number = a.number; holdings = h; funds = a.funds }

-- Document 01, Refresh: "for accounts not in default, core = max(clearing limit x reference rate, last day-end total)".
unfoldable pub refreshed : ℕ → Account → Account
refreshed reference a =
    cond a.funds.flag a (with_holdings a (with_core a.holdings (full_core a.holdings reference)))
