-- Rounding makes no size larger, so that the sign can be put back at every n.
use mathlib.Core.Path.{◌≡◌, ap, ap₂, ◌∙◌}
use Rattle.whole.specs.Machine.{back, told}
use Rattle.whole.specs.Round.{on_tie, size_rounded_by, with_sign}
use Rattle.whole.proofs.RoundLaws.{on_tie-rule, size-rounded-most}
use Rattle.whole.proofs.rounded.Goals as goal
use Rattle.whole.proofs.rounded.Goals.{After-size_rounded}

size_is : (c : After-size_rounded) → let s = c.before in
    c.size_rounded.result ≡ size_rounded_by on_tie s.args.n s.args.d
size_is c =
    let s = c.before in
    c.size_rounded.ensures ∙ ap (λ n. size_rounded_by on_tie n s.args.d) (back s.ranges.n)

pub with_sign-requires : goal.with_sign-requires
with_sign-requires c =
    let s = c.before in
    rw (size_is c, back s.ranges.n) (size-rounded-most on_tie s.args.n s.args.d s.requires on_tie-rule)

pub returns : goal.returns
returns c =
    let s = c.before.before in
    told c.with_sign.result c.with_sign.type_inv
    ∙ c.with_sign.ensures
    ∙ ap₂ with_sign (back s.ranges.n) (size_is c.before)
