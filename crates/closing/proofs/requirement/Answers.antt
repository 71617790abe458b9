use mathlib.Core.Path.{◌≡◌, sym, ap₂, subst, ◌∙◌}
use lib.IntN.{ℤ, ◌+ℤ◌}
use mir.Syntax.{w64}
use mir.Val.{to_z, of_z}
use Rattle.whole.specs.Machine.{Got, got, arg, told, held, kept, fits, add}
use Rattle.whole.specs.Amounts.{Amount, amount-within}
use Rattle.holdings.specs.Holdings.{basis}
use Rattle.holdings.proofs.BoundLaws.{basis-amount}
use Rattle.closing.specs.DayEnd.{over_limit, requirement}
use Rattle.closing.proofs.BoundLaws.{over-amount}
use Rattle.closing.proofs.requirement.Goals as goal
use Rattle.closing.proofs.requirement.Goals.{After-basis-least, After-over_limit, Start}

-- the basis and the over-limit, and that the machine holds them
abbrev basis_at : Start → ℤ
basis_at s = basis s.args.h.limits s.args.reference

abbrev over_at : Start → ℤ
over_at s = over_limit s.args.h.dayend (basis_at s) s.args.multiplier

least : (c : After-basis-least) → to_z w64 (of_z w64 c.basis-least.result) ≡ basis_at (goal.at.After-basis-least c).Start
least c = told c.basis-least.result c.basis-least.type_inv ∙ c.basis-least.ensures

pub over_limit-requires : goal.over_limit-requires
over_limit-requires c = (
  subst (Amount 12000000000000) (sym (arg (amount-within c.requires.0.dayend) tt).eq) c.requires.0.dayend,
  (
    subst (Amount 100000000000000) (sym (least (goal.at.over_limit-requires c).After-basis-least)) (basis-amount c.requires.0.limits c.requires.1.0),
    c.requires.1.1,
  ),
)

over : (c : After-over_limit) → to_z w64 (of_z w64 c.over_limit.result) ≡ over_at (goal.at.After-over_limit c).Start
over c =
    told c.over_limit.result c.over_limit.type_inv
    ∙ c.over_limit.ensures
    ∙ ap₂ (λ t b. over_limit t b c.args.multiplier) (arg (amount-within c.requires.0.dayend) tt).eq (least (goal.at.After-over_limit c).After-basis-least)

abbrev two : (c : After-over_limit)
    → let s = (goal.at.After-over_limit c).Start in Got 220000000000000 (basis_at s +ℤ over_at s)
two c =
    let b = basis-amount c.requires.0.limits c.requires.1.0 in
    let o = over-amount c.requires.0.dayend b c.requires.1.1 in
    got (add (held (least (goal.at.After-over_limit c).After-basis-least) (amount-within b)) (held (over c) (amount-within o)))

pub overflow_add-result : goal.overflow_add-result
overflow_add-result c = fits (two (goal.at.overflow_add-result c).After-over_limit).reads tt

pub overflow_add-result-2 : goal.overflow_add-result-2
overflow_add-result-2 c =
    fits (add (kept (two (goal.at.overflow_add-result-2 c).After-over_limit).reads tt) (arg (amount-within c.requires.0.special) tt)) tt

pub returns : goal.returns
unfolding requirement
returns c =
    (kept (add (kept (two (goal.at.returns c).After-over_limit).reads tt) (arg (amount-within c.requires.0.special) tt)) tt).eq
