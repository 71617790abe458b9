use mathlib.Core.Path.{◌≡◌, sym, ◌∙◌}
use mathlib.Core.Bool.{true}
use borrow.Author.Tests.{not-true, not-false}
use Rattle.places.proofs.place_of.Goals as goal

pub returns-then-not-allowed : goal.returns-then-not-allowed
returns-then-not-allowed c = rw (not-true c.args.allowed c.if-not-allowed.true-raw)

pub returns : goal.returns
returns c =
    let allowed : c.args.allowed ≡ true =
    not-false c.args.allowed c.if-not-allowed.false-raw in
    rw allowed (rw c.find_account.ensures at c.ok_or.ensures.value)
