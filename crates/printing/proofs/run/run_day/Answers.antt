-- A new book is sound.
use Rattle.model.proofs.KeptLaws.{kept_new}
use Rattle.standing.specs.StandingLaws.{sound-of}
use Rattle.printing.proofs.run.run_day.Goals as goal

pub run_within-requires : goal.run_within-requires
run_within-requires g c = sound-of kept_new c.new_book.ensures
