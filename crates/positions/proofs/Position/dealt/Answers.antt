use lib.IntN.{◌+ℤ◌, ◌*ℤ◌}
use Rattle.whole.specs.Machine.{Got, got, arg, kept, fits, add, mul}
use Rattle.positions.proofs.Position.dealt.Goals as goal
use Rattle.positions.proofs.Position.dealt.Goals.{Start}

abbrev net : (s : Start) → Got 21000 (s.args.self.net +ℤ s.args.lots)
net s = got (add (arg s.requires.0.net tt) (arg s.requires.1.0 tt))

abbrev price : (s : Start) → Got 100000000 (s.args.lots *ℤ s.args.rate)
price s = got (mul (arg s.requires.1.0 tt) (arg s.requires.1.1 tt))

abbrev cost : (s : Start) → Got 1000100000000 (s.args.self.cost +ℤ s.args.lots *ℤ s.args.rate)
cost s = got (add (arg s.requires.0.cost tt) (kept (price s).reads tt))

pub overflow_add-result : goal.overflow_add-result
overflow_add-result c = fits (net (goal.at.overflow_add-result c).Start).reads tt

pub overflow_mul-result : goal.overflow_mul-result
overflow_mul-result c = fits (price (goal.at.overflow_mul-result c).Start).reads tt

pub overflow_add-result-2 : goal.overflow_add-result-2
overflow_add-result-2 c = fits (cost (goal.at.overflow_add-result-2 c).Start).reads tt

pub returns : goal.returns
returns c =
    rw ((arg c.requires.0.before tt).eq, (kept (net (goal.at.returns c).Start).reads tt).eq, (kept (cost (goal.at.returns c).Start).reads tt).eq)
