use Rattle.whole.specs.Machine.{arg, passed}
use Rattle.holdings.specs.Holdings.{with_trade}
use Rattle.holdings.proofs.with_trade.Goals as goal

pub with_deal-positions-requires : goal.with_deal-positions-requires
with_deal-positions-requires c =
    (c.requires.0.positions, (c.requires.1.0, (passed (arg c.requires.1.1.0 tt), passed (arg c.requires.1.1.1 tt))))

pub returns : goal.returns
unfolding with_trade
returns c =
    rw (c.with_deal-positions.ensures, (arg c.requires.1.1.0 tt).eq, (arg c.requires.1.1.1 tt).eq)
