use borrow.Author.Rules.{rules}
use Rattle.positions.specs.Bounds.{no_mark}
use Rattle.day_end.proofs.ArrayLaws.{made-all}
use Rattle.day_end.proofs.bookings.marks_of.Goals as goal

pub returns : goal.returns
returns c = made-all _ _ _ (λ i y f' k. search rules) no_mark 6 _ c.from_fn.ensures.items
