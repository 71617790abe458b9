use Rattle.day_end.specs.ReadLaws.{end_read}
use Rattle.day_end.proofs.bookings.day_end.Goals as goal

pub returns : goal.returns
returns c r w =
    end_read r w c.load_header-h.ensures c.marks_of.ensures c.load_margins.ensures
