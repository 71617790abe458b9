-- A tolerance in range is read as it is.
use Rattle.whole.specs.Machine.{unsigned}
use Rattle.book.proofs.calls.limits_in.Goals as goal

pub returns : goal.returns
returns c = rw (unsigned c.requires tt).eq
