-- What is chosen at the head of the loop is what the definition chooses from the months before; six end it, and fewer at the calendar's end leave one past it.
use mathlib.Core.Path.{◌≡◌, sym, ap, ◌∙◌}
use Prim.Native.Nat.{◌+◌}
use Rattle.days.specs.Days.{is_working}
use Rattle.calendar.specs.Listing.{known_codes}
use Rattle.calendar.specs.Choosing.{answered, chosen_before}
use Rattle.calendar.specs.ChoosingLaws.{chosen_none, chosen-next, chosen-most, full-listing, short-listing}
use native.Mathlib.Omega.{arith}
use Rattle.calendar.proofs.listing.listed_on.Goals as goal
use Rattle.calendar.proofs.listing.listed_on.Goals.{After-considered-chosen}

pub loop-number-init : goal.loop-number-init
loop-number-init c = let none = c.none-chosen.ensures in (none ∙ sym (chosen_none _ _), rw none (λ e. omega arith))

pub considered-chosen-requires : goal.considered-chosen-requires
considered-chosen-requires c = rw c.loop-number.invariant.0 (chosen-most _ _ _)

-- with one month more
next_is : (c : After-considered-chosen)
    → c.considered-chosen.result ≡ chosen_before (is_working c.args.exceptions.now) c.args.t (c.loop-number.number + 1)
next_is c =
    c.considered-chosen.ensures
    ∙ rw (c.loop-number.invariant.0, c.settlement_day.ensures) (chosen-next _ _ _ c.loop-number.auto.number)

pub overflow_add-chosen : goal.overflow_add-chosen
overflow_add-chosen c =
    rw (next_is (goal.at.overflow_add-chosen c).After-considered-chosen)
    (omega (arith, chosen-most (is_working c.args.exceptions.now) c.args.t (c.loop-number.number + 1)))

pub returns-then-chosen-eq6 : goal.returns-then-chosen-eq6
returns-then-chosen-eq6 c =
    let next = next_is (goal.at.returns-then-chosen-eq6 c).After-considered-chosen in
    c.answered.ensures ∙ ap known_codes (ap answered next ∙ full-listing _ _ _ (omega arith) (rw next at c.if-chosen-eq6.true))

pub loop-number-preserved : goal.loop-number-preserved
loop-number-preserved c = (next_is (goal.at.loop-number-preserved c).After-considered-chosen, c.if-chosen-eq6.false)

pub returns : goal.returns
returns c =
    let last : c.loop-number.number ≡ 360 = omega arith in
    sym (ap known_codes (short-listing _ _ (rw (c.loop-number.invariant.0, last) at c.loop-number.invariant.1)))
