-- The contract's row is loaded, counts the trade and is put back; the header follows.
use mathlib.Core.Path.{◌≡◌, sym, ap, ap₂, ◌∙◌, subst}
use Rattle.whole.specs.Machine.{arg, passed}
use Rattle.tallies.specs.Bounds.{Sound}
use Rattle.tallies.specs.Means.{weighted}
use Rattle.tallies.specs.Tally.{with_trade}
use Rattle.memory.specs.declared.contract_rows.Contract.{Contract}
use Rattle.memory.specs.Layout.{contract_at, with_contract_counts, with_contract_money}
use Rattle.standing.specs.DealLaws.{with_tally}
use Rattle.dealing.specs.Dealing.{trade_of}
use Rattle.dealing.specs.Written.{traded_row}
use Rattle.dealing.proofs.trades.write_trade.Goals as goal
use Rattle.dealing.proofs.trades.write_trade.Goals.{After-with_trade-x, Start}

abbrev start : After-with_trade-x → Start
start c = (goal.at.After-with_trade-x c).Start

abbrev row : Start → Contract
row s = traded_row (contract_at s.args.counts.now s.args.money.now s.args.k) (trade_of s.args.t)

row_is : (c : After-with_trade-x) → with_tally c.load_contract-x.result c.with_trade-x.result ≡ row (start c)
row_is c =
    let loaded = c.load_contract-x.ensures in
    let t = trade_of (start c).args.t in
    ap₂ with_tally loaded
    (c.with_trade-x.ensures
    ∙ ap₂ (λ (x : Contract) rate. with_trade x.tally t.time (weighted t.lots rate)) loaded (arg (start c).requires.range.rate tt).eq)

pub with_trade-x-requires : goal.with_trade-x-requires
with_trade-x-requires c = (
  subst (λ (x : Contract). Sound x.tally) (sym c.load_contract-x.ensures) c.requires.tally,
  record { weight = c.requires.range.most; rate = passed (arg c.requires.range.rate tt) },
)

pub returns : goal.returns
returns c =
    let s = start (goal.at.returns c).After-with_trade-x in
    record {
      counts = c.store_contract.ensures.0
          ∙ ap₂ (λ l x. with_contract_counts l s.args.k x) c.store_header.ensures (row_is (goal.at.returns c).After-with_trade-x);
      money = c.store_contract.ensures.1 ∙ ap (with_contract_money s.args.money.now s.args.k) (row_is (goal.at.returns c).After-with_trade-x);
    }
