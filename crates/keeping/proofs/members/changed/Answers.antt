use Rattle.whole.specs.Machine.{told}
use Rattle.keeping.proofs.members.changed.Goals as goal

pub returns-in-Special : goal.returns-in-Special
returns-in-Special c =
    rw (c.in-Special.is, c.with_special.ensures, told c.in-Special.special c.in-Special.known_told-1-own.given.0.1)

pub returns-in-Coming : goal.returns-in-Coming
returns-in-Coming c = rw c.in-Coming.is c.with_limits.ensures
