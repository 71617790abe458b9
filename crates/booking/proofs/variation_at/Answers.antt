use lib.IntN.{pos, ◌+ℤ◌, ◌-ℤ◌, ◌*ℤ◌}
use Rattle.whole.specs.Within.{lit}
use Rattle.whole.specs.Machine.{Got, got, now, arg, kept, fits, add, sub, mul}
use Rattle.booking.specs.Variation.{variation_at}
use Rattle.booking.proofs.variation_at.Goals as goal
use Rattle.booking.proofs.variation_at.Goals.{Start}

-- the lots of today; what today's trades earn; what the net before today earns
abbrev lots : (s : Start) → Got 40000 (s.args.p.net -ℤ s.args.p.before)
lots s = got (sub (arg s.requires.0.net tt) (arg s.requires.0.before tt))

abbrev worth : (s : Start) → Got 4000000000 ((s.args.p.net -ℤ s.args.p.before) *ℤ s.args.m.rate)
worth s = got (mul (kept (lots s).reads tt) (arg s.requires.1.rate tt))

abbrev today : (s : Start)
    → Got 1004000000000 ((s.args.p.net -ℤ s.args.p.before) *ℤ s.args.m.rate -ℤ s.args.p.cost)
today s = got (sub (kept (worth s).reads tt) (arg s.requires.0.cost tt))

abbrev move : (s : Start) → Got 200000 (s.args.m.rate -ℤ s.args.m.previous)
move s = got (sub (arg s.requires.1.rate tt) (arg s.requires.1.previous tt))

abbrev held : (s : Start) → Got 4000000000 (s.args.p.before *ℤ (s.args.m.rate -ℤ s.args.m.previous))
held s = got (mul (arg s.requires.0.before tt) (kept (move s).reads tt))

abbrev both : (s : Start)
    → let p = s.args.p in
    let m = s.args.m in
    Got 1008000000000 (((p.net -ℤ p.before) *ℤ m.rate -ℤ p.cost) +ℤ p.before *ℤ (m.rate -ℤ m.previous))
both s = got (add (kept (today s).reads tt) (kept (held s).reads tt))

pub overflow_sub-today : goal.overflow_sub-today
overflow_sub-today c = fits (lots (goal.at.overflow_sub-today c).Start).reads tt

pub overflow_mul-today : goal.overflow_mul-today
overflow_mul-today c = fits (worth (goal.at.overflow_mul-today c).Start).reads tt

pub overflow_sub-today-2 : goal.overflow_sub-today-2
overflow_sub-today-2 c = fits (today (goal.at.overflow_sub-today-2 c).Start).reads tt

pub overflow_sub-held : goal.overflow_sub-held
overflow_sub-held c = fits (move (goal.at.overflow_sub-held c).Start).reads tt

pub overflow_mul-held : goal.overflow_mul-held
overflow_mul-held c = fits (held (goal.at.overflow_mul-held c).Start).reads tt

pub overflow_add-result : goal.overflow_add-result
overflow_add-result c = fits (both (goal.at.overflow_add-result c).Start).reads tt

pub overflow_mul-result : goal.overflow_mul-result
overflow_mul-result c =
    fits (mul (now (lit (pos 250))) (kept (both (goal.at.overflow_mul-result c).Start).reads tt)) tt

pub returns : goal.returns
unfolding variation_at
returns c =
    (kept (mul (now (lit (pos 250))) (kept (both (goal.at.returns c).Start).reads tt)) tt).eq
