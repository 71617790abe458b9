-- The rate is read back as it was unfolded.
use Rattle.whole.specs.Machine.{told}
use Rattle.book.proofs.calls.deal_in.Goals as goal

pub returns : goal.returns
returns c = rw (told c.unfold-rate.result c.unfold-rate.type_inv, c.unfold-rate.ensures)
