use mathlib.Core.Path.{◌≡◌, sym, ap, ap₂, ◌∙◌}
use native.Mathlib.Omega.{arith}
use Rattle.whole.specs.Machine.{arg, pass}
use Rattle.tallies.specs.Means.{weighted}
use Rattle.tallies.specs.Tally.{in_day, in_hour}
use Rattle.tallies.specs.MeanLaws.{fair-wider}
use Rattle.tallies.proofs.TallyLaws.{trade-late, trade-early}
use Rattle.tallies.specs.declared.Weighted.{Weighted}
use Rattle.tallies.proofs.with_trade.Goals as goal
use Rattle.tallies.proofs.with_trade.Goals.{After-in_day-x, Start}

abbrev traded : Start → Weighted
traded s = weighted s.args.lots s.args.rate

added : (c : After-in_day-x) → c.in_day-x.result ≡ in_day c.args.t (traded c.before)
added c =
    let s = c.before in
    c.in_day-x.ensures ∙ ap (λ r. in_day s.args.t (weighted s.args.lots r)) (arg s.requires.1.rate tt).eq

pub in_hour-requires : goal.in_hour-requires
unfolding in_day
in_hour-requires c =
    let s = c.before.before.before in
    let sound = s.requires.0 in
    rw (added c.before.before) (
      omega (arith, sound.late, sound.trades),
      (
        fair-wider s.args.t.hour sound.hour (omega (arith, sound.late, sound.trades)),
        record { weight = s.requires.1.weight; rate = pass s.requires.1.rate tt tt },
      ),
    )

pub returns-then-in_last_hour : goal.returns-then-in_last_hour
returns-then-in_last_hour c =
    let d = c.before.before.before in
    let s = d.before in
    c.in_hour.ensures
    ∙ ap₂ (λ t r. in_hour t (weighted s.args.lots r)) (added d) (arg s.requires.1.rate tt).eq
    ∙ sym (trade-late s.args.t s.args.time (traded s)
    (sym c.in_last_hour.ensures ∙ c.if-in_last_hour.true))

pub returns-else-in_last_hour : goal.returns-else-in_last_hour
returns-else-in_last_hour c =
    let d = c.before.before in
    let s = d.before in
    added d ∙ sym (trade-early s.args.t s.args.time (traded s)
    (sym c.in_last_hour.ensures ∙ c.if-in_last_hour.false))
