use mathlib.Core.Path.{◌≡◌}
use mir.Syntax.{w64}
use mir.Val.{to_z, of_z}
use Rattle.whole.specs.Machine.{arg}
use Rattle.whole.specs.Amounts.{amount-within}
use Rattle.payments.proofs.paid.Goals as goal
use Rattle.payments.proofs.paid.Goals.{Start}

amount : (s : Start) → to_z w64 (of_z w64 s.args.amount) ≡ s.args.amount
amount s = (arg (amount-within s.requires.1) tt).eq

pub returns-in-In : goal.returns-in-In
returns-in-In c = rw (c.in-In.is, c.pay_in.ensures, amount (goal.at.returns-in-In c).Start)

pub returns-in-Out : goal.returns-in-Out
returns-in-Out c = rw (c.in-Out.is, c.pay_out.ensures, amount (goal.at.returns-in-Out c).Start)

pub returns-in-Back : goal.returns-in-Back
returns-in-Back c = rw (c.in-Back.is, c.release.ensures, amount (goal.at.returns-in-Back c).Start)
