use Rattle.whole.specs.Machine.{arg, passed}
use Rattle.dealing.proofs.sides.with_lots.Goals as goal

pub with_trade-x-requires : goal.with_trade-x-requires
with_trade-x-requires c = (c.requires.0, (c.requires.1.0, (passed (arg c.requires.1.1.0 tt), passed (arg c.requires.1.1.1 tt))))

pub returns : goal.returns
returns c =
    rw (c.with_trade-x.ensures, (arg c.requires.1.1.0 tt).eq, (arg c.requires.1.1.1 tt).eq)
