-- Each test of the code is the one of the definition, and a kind with a place leaves a place of the six.
use Rattle.std.specs.Prelude.{Option, Some, None, is_some, ℕ, not}
use mathlib.Core.Path.{◌≡◌, refl, sym, ap, ◌∙◌}
use Rattle.days.specs.Days.{is_no_day}
use Rattle.months.specs.Months.{is_quarterly}
use Rattle.calendar.specs.Choosing.{has_place, considered}
use Rattle.calendar.specs.ChoosingLaws.{place-left}
use Rattle.calendar.proofs.listing.Chosen.considered.Goals as goal
use Rattle.calendar.proofs.listing.Chosen.considered.Goals.{After-has_place, else-is_after-via-then-is_after+else-has_place, else-is_after-via-else-is_after}

-- std's test is the definition's
there : (day : Option ℕ) → is_some day ≡ not (is_no_day day)
there (Some d) = refl
there None = refl

-- what was asked of the kind is what the definition asks
place : (c : After-has_place) → c.has_place.result ≡ has_place c.args.self (is_quarterly c.args.month.number)
place c = c.has_place.ensures ∙ ap (has_place c.args.self) c.is_quarterly-quarterly.ensures

pub placed-requires : goal.placed-requires
placed-requires c =
    place-left c.args.self c.is_quarterly-quarterly.result c.requires.0 c.requires.1 (sym c.has_place.ensures ∙ c.if-has_place.true)

pub returns-then-has_place : goal.returns-then-has_place
unfolding considered
returns-then-has_place c =
    rw
    (sym c.is_after.ensures ∙ c.if-is_after.true, sym (place (goal.at.returns-then-has_place c).After-has_place) ∙ c.if-has_place.true, ← c.is_quarterly-quarterly.ensures, ← c.code.ensures, ← (c.is_some.ensures ∙ there c.args.day))
    c.placed.ensures

pub returns-else-is_after : goal.returns-else-is_after
unfolding considered
returns-else-is_after c =
    elim c.else-is_after.branch [
      | else-is_after-via-then-is_after+else-has_place w ↦
          let asked : w.has_place.result ≡ has_place c.args.self (is_quarterly c.args.month.number) =
          w.has_place.ensures ∙ ap (has_place c.args.self) c.is_quarterly-quarterly.ensures in
          rw (sym c.is_after.ensures ∙ w.if-is_after.true, sym asked ∙ w.if-has_place.false)
      | else-is_after-via-else-is_after w ↦ rw (sym c.is_after.ensures ∙ w.if-is_after.false)
    ]
