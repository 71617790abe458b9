-- The digits before the point and those behind it are the parts that the definition takes.
use mathlib.Core.Path.{◌≡◌, ap, ◌∙◌}
use native.Mathlib.Omega.{arith}
use borrow.Author.Tests.{le-leb, lt-leb}
use lib.ListN.{drop}
use lib.ListN.{length-take}
use Rattle.lists.specs.Parts.{part-rest}
use Rattle.parsing.specs.Guess.{two_at}
use Rattle.parsing.proofs.guessing.size_in.Goals as goal

pub slice_bounds-number_of-end : goal.slice_bounds-number_of-end
slice_bounds-number_of-end c = simp length-take (omega (arith, c.byte_end-point.ensures.2))

pub returns-then-whole-gt-PERCENTS : goal.returns-then-whole-gt-PERCENTS
returns-then-whole-gt-PERCENTS c = rw (← c.byte_end-point.ensures.0, ← c.number_of-whole.ensures, lt-leb _ 922337203685477 c.if-whole-gt-PERCENTS.true)

pub returns : goal.returns
returns c =
    let p = c.byte_end-point in
    let word = c.args.word.now in
    let first : c.two_at.result ≡ two_at (drop p.result word) 1 = c.two_at.ensures.0 ∙ ap (λ l. two_at l 1) (part-rest p.result word) in
    let last : c.two_at-2.result ≡ two_at (drop p.result word) 3 = c.two_at-2.ensures.0 ∙ ap (λ l. two_at l 3) (part-rest p.result word) in
    rw (← p.ensures.0, ← c.number_of-whole.ensures, le-leb _ 922337203685477 c.if-whole-gt-PERCENTS.false, first, last)
