use mathlib.Core.Path.{◌≡◌, sym, ap, ap₂, subst, ◌∙◌}
use native.Mathlib.Omega.{arith}
use mir.Syntax.{w64}
use mir.Val.{to_z, of_z}
use Rattle.whole.specs.Machine.{arg, told, passed}
use Rattle.whole.specs.Amounts.{Amount}
use Rattle.holdings.specs.Bounds as holdings
use Rattle.holdings.proofs.BoundLaws.{sound-wider}
use Rattle.closing.specs.DayEnd.{at_close, requirement, with_core_by}
use Rattle.closing.proofs.BoundLaws.{close-sound, requirement-amount}
use Rattle.funds.specs.Funds.{billed}
use Rattle.funds.specs.Bounds.{requirement_most}
use Rattle.accounts.specs.Accounts.{bill_of, closed}
use Rattle.accounts.proofs.close_account.Goals as goal
use Rattle.accounts.proofs.close_account.Goals.{After-at_close-h, After-requirement-asked}

-- what the account holds at the close, within bounds
left : (c : After-at_close-h) → holdings.Sound 0 c.at_close-h.result
left c =
    rw c.at_close-h.ensures (close-sound c.requires.0.holdings (omega arith) c.requires.1)

pub requirement-asked-requires : goal.requirement-asked-requires
requirement-asked-requires c =
    (sound-wider (left c) (omega arith), (c.requires.1.reference, c.requires.1.multiplier))

-- the requirement, as the machine holds it
asked : (c : After-requirement-asked)
    → to_z w64 (of_z w64 c.requirement-asked.result) ≡ requirement c.at_close-h.result c.args.d.reference c.args.d.multiplier
asked c = told c.requirement-asked.result c.requirement-asked.type_inv ∙ c.requirement-asked.ensures

pub billed-funds-requires : goal.billed-funds-requires
billed-funds-requires c =
    let h = left c.before.before.before in
    let small = requirement-amount h c.requires.1.reference c.requires.1.multiplier in
    (c.requires.0.funds, (passed (arg h.variation tt), subst (Amount requirement_most) (sym (asked c.before.before)) small))

pub with_core_by-holdings-requires : goal.with_core_by-holdings-requires
with_core_by-holdings-requires c =
    ((left c.before.before.before.before.before).limits, c.requires.1.reference)

pub returns : goal.returns
unfolding closed
returns c =
    let bill : c.billed-funds.result ≡ bill_of c.args.d (at_close c.args.d c.args.a.holdings) c.args.a.funds =
    c.billed-funds.ensures
    ∙ ap₂ (billed c.args.a.funds) (arg (left c.before.before.before.before.before).variation tt).eq (asked c.before.before.before.before)
    ∙ ap (λ h. bill_of c.args.d h c.args.a.funds) c.at_close-h.ensures in
    let closing = c.before.before.before.before.before in
    let free =
    told c.billed-funds.result.free c.struct_told-2-1.given.1.1.1.1.0.1
    ∙ ap (λ f. f.free) bill in
    let held =
    c.with_core_by-holdings.ensures
    ∙ ap₂ (λ h z. with_core_by h c.args.d.reference z) c.at_close-h.ensures free in
    rw (held, bill)
