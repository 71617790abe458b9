use mathlib.Core.Path.{◌≡◌, subst, ap, ◌∙◌}
use Rattle.whole.specs.Machine.{told, back}
use Rattle.tallies.specs.Tally.{side_in}
use Rattle.rates.specs.Settling.{Divides}
use Rattle.rates.specs.ExactLaws.{halfway-weighs}
use Rattle.rates.specs.Rules.{nearest}
use Rattle.rates.specs.declared.Rule.{Rule}
use Rattle.rates.proofs.rate_by.Goals as goal
use Rattle.rates.proofs.rate_by.Goals.{Start}

-- what the rule of this arm divides by
divides : {rule : Rule} (s : Start) → s.args.rule ≡ rule → Divides rule s.args.t
divides s e = subst (λ r. Divides r s.args.t) e s.requires.1

pub nearest_to-requires : goal.nearest_to-requires
nearest_to-requires c = divides c.before.before c.in-LastHour.is

pub nearest_to-requires-in-LastFive : goal.nearest_to-requires-in-LastFive
nearest_to-requires-in-LastFive c =
    rw c.mean_of-mean.ensures (divides c.before.before.before c.in-LastFive.is)

pub half_of-half-requires : goal.half_of-half-requires
half_of-half-requires c = (c.requires.0.quotes 0, c.requires.0.quotes 1)

pub nearest_to-requires-in-Quotes : goal.nearest_to-requires-in-Quotes
nearest_to-requires-in-Quotes c =
    let quoted = c.before.before.before.before in
    let d = divides c.before.before.before.before.before c.in-Quotes.is in
    rw c.half_of-half.ensures (halfway-weighs (side_in c.args.t 0) (side_in c.args.t 1) d.0 d.1)

pub returns-in-LastHour : goal.returns-in-LastHour
returns-in-LastHour c =
    told c.nearest_to.result c.nearest_to.type_inv ∙ c.nearest_to.ensures ∙ rw c.in-LastHour.is

pub returns-in-LastFive : goal.returns-in-LastFive
returns-in-LastFive c =
    told c.nearest_to-in-LastFive.result c.nearest_to-in-LastFive.type_inv
    ∙ c.nearest_to-in-LastFive.ensures
    ∙ ap nearest c.mean_of-mean.ensures
    ∙ rw c.in-LastFive.is

pub returns-in-Quotes : goal.returns-in-Quotes
returns-in-Quotes c =
    told c.nearest_to-in-Quotes.result c.nearest_to-in-Quotes.type_inv
    ∙ c.nearest_to-in-Quotes.ensures
    ∙ ap nearest c.half_of-half.ensures
    ∙ rw c.in-Quotes.is

pub returns-in-Previous : goal.returns-in-Previous
returns-in-Previous c = back c.ranges.previous ∙ rw c.in-Previous.is

pub returns-in-Final : goal.returns-in-Final
returns-in-Final c = back c.ranges.final_rate ∙ rw c.in-Final.is
