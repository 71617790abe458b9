-- The list lent holds the exceptions that were read.
use mathlib.Core.Path.{sym}
use Rattle.book.proofs.bytes.call_read.Goals as goal

pub returns : goal.returns
returns c = rw (sym c.read_numbers-end.ensures.1) c.call.ensures
