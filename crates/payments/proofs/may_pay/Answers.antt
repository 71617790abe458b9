use Rattle.payments.proofs.may_pay.Goals as goal

pub returns-in-In : goal.returns-in-In
returns-in-In c = rw c.in-In.is

pub returns-in-Out : goal.returns-in-Out
returns-in-Out c = rw c.in-Out.is

pub returns-in-Back : goal.returns-in-Back
returns-in-Back c = rw c.in-Back.is
