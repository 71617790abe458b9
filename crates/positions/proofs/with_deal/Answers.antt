use Rattle.whole.specs.Machine.{arg, passed}
use Rattle.positions.specs.Deals.{with_deal}
use Rattle.positions.specs.BoundLaws.{modest-at}
use Rattle.positions.proofs.with_deal.Goals as goal

pub dealt-requires : goal.dealt-requires
dealt-requires c =
    (modest-at c.requires.0 c.args.row, (passed (arg c.requires.1.1.0 tt), passed (arg c.requires.1.1.1 tt)))

pub returns : goal.returns
unfolding with_deal
returns c =
    rw (c.dealt.ensures, (arg c.requires.1.1.0 tt).eq, (arg c.requires.1.1.1 tt).eq)
