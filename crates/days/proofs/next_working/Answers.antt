-- The search answers the first working day of the calendar's days from the day on.
use Rattle.std.specs.Prelude.{Option, Some, None, Bool}
use Rattle.std.proofs.Common.{◌≡◌, sym, ℕ, true, false, rules, arith, ◌-◌, ◌≤◌, ◌<◌}
use Rattle.std.specs.Option.{MatchOption}
use Rattle.std.proofs.lemmas.Iterator.{first_from_Range}
use Rattle.days.specs.Days.{is_working, next_working}
use Rattle.days.specs.DayLaws.{first-is, all-off-none}
use Rattle.days.proofs.next_working.Goals as goal
use Rattle.days.proofs.next_working.Goals.{After-find}

found : (c : After-find) → let w = is_working c.args.exceptions.now in let day = c.args.day in
    MatchOption c.find.result ((k : ℕ) → day ≤ k → k < 3653 → w k ≡ false)
    (λ d. (day ≤ d) × (d < 3653) × (w d ≡ true) × ((k : ℕ) → day ≤ k → k < d → w k ≡ false))
found c =
    let w = is_working c.args.exceptions.now in
    first_from_Range _ _ _ c.find.result (λ k. w k ≡ true) (λ k. w k ≡ false) c.find.ensures.ran (λ x q k. search rules) (λ x q k. search rules)

first : (w : ℕ → Bool) (day : ℕ) (r : Option ℕ)
    → MatchOption r ((k : ℕ) → day ≤ k → k < 3653 → w k ≡ false)
    (λ d. (day ≤ d) × (d < 3653) × (w d ≡ true) × ((k : ℕ) → day ≤ k → k < d → w k ≡ false))
    → r ≡ next_working w day
first w day (Some d) f = sym (first-is w (3653 - day) day d f.0 (omega (arith, f.0, f.1)) f.2 f.3)
first w day None f = sym (all-off-none w (3653 - day) day (λ k a b. f k a (omega arith)))

pub returns : goal.returns
returns c = first _ c.args.day c.find.result (found c)
