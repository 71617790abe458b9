use mathlib.Core.Path.{◌≡◌, sym, ap₂, subst, ◌∙◌}
use lib.IntN.{ℤ}
use mir.Syntax.{w64}
use mir.Val.{to_z, of_z}
use Rattle.whole.specs.Machine.{arg, told}
use Rattle.whole.specs.Amounts.{Amount, amount-within}
use Rattle.holdings.specs.Holdings.{basis}
use Rattle.holdings.proofs.BoundLaws.{basis-amount}
use Rattle.closing.specs.DayEnd.{over_limit}
use Rattle.particulars.specs.RequiredLaws.{parts_are}
use Rattle.particulars.proofs.required.parts_in.Goals as goal
use Rattle.particulars.proofs.required.parts_in.Goals.{After-basis-least, After-over_limit-over, Start}

-- the basis and the over-limit, and that the machine holds them
abbrev basis_at : Start → ℤ
basis_at s = basis s.args.a.holdings.limits s.args.reference

least : (c : After-basis-least) → to_z w64 (of_z w64 c.basis-least.result) ≡ basis_at (goal.at.After-basis-least c).Start
least c = told c.basis-least.result c.basis-least.type_inv ∙ c.basis-least.ensures

total : (s : Start) → to_z w64 (of_z w64 s.args.a.holdings.dayend) ≡ s.args.a.holdings.dayend
total s = (arg (amount-within s.requires.total) tt).eq

pub over_limit-over-requires : goal.over_limit-over-requires
over_limit-over-requires c = (
  subst (Amount 12000000000000) (sym (total (goal.at.over_limit-over-requires c).Start)) c.requires.total,
  (subst (Amount 100000000000000) (sym (least (goal.at.over_limit-over-requires c).After-basis-least)) (basis-amount c.requires.limits c.requires.rate), c.requires.most),
)

over : (c : After-over_limit-over)
    → to_z w64 (of_z w64 c.over_limit-over.result) ≡ over_limit c.args.a.holdings.dayend (basis_at (goal.at.After-over_limit-over c).Start) c.args.multiplier
over c =
    told c.over_limit-over.result c.over_limit-over.type_inv
    ∙ c.over_limit-over.ensures
    ∙ ap₂ (λ t b. over_limit t b c.args.multiplier) (total (goal.at.After-over_limit-over c).Start) (least (goal.at.After-over_limit-over c).After-basis-least)

pub returns : goal.returns
returns c =
    let a = c.args.a in
    parts_are a c.args.reference c.args.multiplier
    (least (goal.at.returns c).After-basis-least)
    (total (goal.at.returns c).Start)
    (over (goal.at.returns c).After-over_limit-over)
    (told a.holdings.special c.struct_told-2-1.given.1.1.1.0.1)
    (told a.funds.margin c.struct_told-3-1.given.1.0.1)
    (told a.funds.cash c.struct_told-3-1.given.0.1)
