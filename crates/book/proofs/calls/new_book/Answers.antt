-- A new book's memory is all zeros.
use mathlib.Core.Path.{ap, ◌∙◌}
use lib.IntN.{pos}
use lib.ListN.{replicate}
use Rattle.book.specs.CalledLaws.{zeros-new}
use Rattle.book.proofs.calls.new_book.Goals as goal

pub returns : goal.returns
returns c =
    zeros-new (c.clear.ensures.0 ∙ ap (λ n. replicate n 0) c.clear-arg-1.given.0.1)
    (c.clear.ensures.1 ∙ ap (λ n. replicate n (pos 0)) c.clear-arg-2-1.given.0.1)
