use lib.IntN.{pos, ◌-ℤ◌, ◌*ℤ◌}
use Rattle.whole.specs.Within.{lit}
use Rattle.whole.specs.Machine.{Got, got, now, arg, kept, fits, sub, mul}
use Rattle.trail.proofs.worth.Goals as goal
use Rattle.trail.proofs.worth.Goals.{Start}

-- how far the rate moved; what that is on one lot; and on all
abbrev move : (s : Start) → Got 200000 (s.args.rate -ℤ s.args.traded)
move s = got (sub (arg s.requires.1.1 tt) (arg s.requires.1.0 tt))

abbrev on_one : (s : Start) → Got 50000000 (pos 250 *ℤ (s.args.rate -ℤ s.args.traded))
on_one s = got (mul (now (lit (pos 250))) (kept (move s).reads tt))

abbrev on-all : (s : Start) → Got 1000000000000 (s.args.lots *ℤ (pos 250 *ℤ (s.args.rate -ℤ s.args.traded)))
on-all s = got (mul (arg s.requires.0 tt) (kept (on_one s).reads tt))

pub overflow_sub-result : goal.overflow_sub-result
overflow_sub-result c = fits (move c).reads tt

pub overflow_mul-result : goal.overflow_mul-result
overflow_mul-result c = fits (on_one c).reads tt

pub overflow_mul-result-2 : goal.overflow_mul-result-2
overflow_mul-result-2 c = fits (on-all c).reads tt

pub returns : goal.returns
returns c = (kept (on-all c).reads tt).eq
