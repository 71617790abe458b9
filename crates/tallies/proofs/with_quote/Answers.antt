use mathlib.Core.Path.{sym, ap, ◌∙◌}
use Rattle.std.proofs.Common.{inl, inr}
use borrow.Author.Tests.{lt-ltb, le-ltb}
use Rattle.whole.specs.Machine.{arg}
use Rattle.tallies.specs.Means.{weighted}
use Rattle.tallies.specs.Tally.{in_side}
use Rattle.tallies.proofs.TallyLaws.{quote-early, quote-counts, quote-of-no-side}
use Rattle.tallies.proofs.with_quote.Goals as goal

pub returns-then-side-lt2 : goal.returns-then-side-lt2
returns-then-side-lt2 c =
    let a = c.args in
    c.in_side.ensures
    ∙ ap (λ r. in_side a.t a.side (weighted 1 r)) (arg c.requires.1 tt).eq
    ∙ sym (quote-counts a.t a.time a.side (weighted 1 a.rate) (sym c.in_last_hour.ensures ∙ c.if-in_last_hour.true) (lt-ltb a.side 2 c.if-side-lt2.true))

pub returns-else-in_last_hour : goal.returns-else-in_last_hour
returns-else-in_last_hour c =
    let a = c.args in
    elim c.else-in_last_hour.either [
      | inl w ↦ sym (quote-of-no-side a.t a.time a.side (weighted 1 a.rate) (sym c.in_last_hour.ensures ∙ w.0) (le-ltb a.side 2 w.1))
      | inr w ↦ sym (quote-early a.t a.time a.side (weighted 1 a.rate) (sym c.in_last_hour.ensures ∙ w))
    ]
