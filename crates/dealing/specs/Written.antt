-- What an accepted trade writes besides the accounts: the contract's tally and the header.
use Rattle.std.specs.Prelude.{◌≡◌, List, ℕ, ◌+◌, ◌<◌, ℤ}
use Rattle.tallies.specs.Bounds.{Sound}
use Rattle.tallies.specs.Means.{weighted}
use Rattle.tallies.specs.Tally.{with_trade}
use Rattle.memory.specs.declared.header_row.Header.{Header}
use Rattle.memory.specs.declared.contract_rows.Contract.{Contract}
use Rattle.memory.specs.Layout.{Long, with_header, contract_at, with_contract_counts, with_contract_money}
use Rattle.model.specs.Calls.{Trade}
use Rattle.model.specs.Ranged.{GoodTrade}
use Rattle.standing.specs.DealLaws.{with_tally}
use Rattle.hours.specs.Clocked.{clocked}

-- a contract's row after a trade
abbrev pub traded_row : Contract → Trade → Contract
traded_row x t = with_tally x (with_trade x.tally t.time (weighted t.lots t.rate))

pub record Writable (c : List ℕ) (m : List ℤ) (h : Header) (t : Trade) (k : ℕ) : Type 0 where
  pub long : Long c m
  pub row : k < 6
  pub tally : Sound (contract_at c m k).tally
  pub range : GoodTrade t
  pub room : h.trades < 10000

pub record Written (c : List ℕ) (m : List ℤ) (h : Header) (t : Trade) (k : ℕ) (c' : List ℕ) (m' : List ℤ) : Type 0 where
  pub counts : c' ≡ with_contract_counts (with_header c (clocked h t.time (h.trades + 1))) k (traded_row (contract_at c m k) t)
  pub money : m' ≡ with_contract_money m k (traded_row (contract_at c m k) t)
