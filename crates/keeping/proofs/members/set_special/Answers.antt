use Rattle.whole.specs.Machine.{unsigned}
use Rattle.keeping.proofs.members.set_special.Goals as goal

pub returns : goal.returns
returns c =
    rw (← (unsigned c.requires.1 tt).eq) c.set.ensures
