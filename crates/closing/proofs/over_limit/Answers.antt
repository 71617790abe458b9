use mathlib.Core.Path.{◌≡◌, ap, ◌∙◌}
use lib.IntN.{pos, ◌-ℤ◌, ◌*ℤ◌}
use Rattle.whole.specs.Within.{lit, wider}
use Rattle.whole.specs.Machine.{Got, got, arg, told, held, kept, fits, unsigned, sub, mul}
use Rattle.whole.specs.Larger.{larger, larger-within}
use Rattle.whole.specs.Round.{hundredth_up}
use Rattle.whole.specs.Amounts.{amount-within}
use Rattle.closing.specs.DayEnd.{over_limit}
use Rattle.closing.proofs.over_limit.Goals as goal
use Rattle.closing.proofs.over_limit.Goals.{After-larger, Start}

abbrev above : (s : Start) → Got 112000000000000 (s.args.total -ℤ s.args.basis)
above s = got (sub (arg (amount-within s.requires.0) tt) (arg (amount-within s.requires.1.0) tt))

excess : (c : After-larger) → c.larger.result ≡ larger (c.args.total -ℤ c.args.basis) (pos 0)
excess c = c.larger.ensures ∙ ap (λ z. larger z (pos 0)) (kept (above (goal.at.After-larger c).Start).reads tt).eq

abbrev times : (c : After-larger)
    → Got 112000000000000000 (larger (c.args.total -ℤ c.args.basis) (pos 0) *ℤ pos c.args.multiplier)
times c =
    let size = larger-within (c.args.total -ℤ c.args.basis) (pos 0) (above (goal.at.After-larger c).Start).reads.within (wider (lit (pos 0)) tt) in
    got (mul (held (told c.larger.result c.larger.type_inv ∙ excess c) size) (unsigned c.requires.1.1 tt))

pub overflow_sub-total : goal.overflow_sub-total
overflow_sub-total c = fits (above c).reads tt

pub overflow_mul-larger : goal.overflow_mul-larger
overflow_mul-larger c = fits (times (goal.at.overflow_mul-larger c).After-larger).reads tt

pub returns : goal.returns
unfolding over_limit
returns c =
    told c.hundredth_up.result c.hundredth_up.type_inv
    ∙ c.hundredth_up.ensures
    ∙ ap hundredth_up (kept (times (goal.at.returns c).After-larger).reads tt).eq
