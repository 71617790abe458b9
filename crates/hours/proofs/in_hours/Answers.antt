use native.Mathlib.Omega.{arith}
use borrow.Author.Tests.{lt-ltb, le-ltb, lt-leb, le-leb}
use Rattle.hours.proofs.in_hours.Goals as goal

pub returns-then-time-lt32400 : goal.returns-then-time-lt32400
returns-then-time-lt32400 c = let t = c.args.time in rw (lt-leb 32400 t c.if-time-lt32400.true, lt-leb 48600 t (omega arith))

pub returns-then-time-lt43200 : goal.returns-then-time-lt43200
returns-then-time-lt43200 c = let t = c.args.time in rw (le-leb 32400 t c.if-time-lt32400.false, lt-ltb t 43200 c.if-time-lt43200.true)

pub returns-then-time-lt48600 : goal.returns-then-time-lt48600
returns-then-time-lt48600 c = let t = c.args.time in
    rw (le-leb 32400 t c.if-time-lt32400.false, le-ltb t 43200 c.if-time-lt43200.false, lt-leb 48600 t c.if-time-lt48600.true)

pub returns : goal.returns
returns c = let t = c.args.time in
    rw (le-leb 32400 t c.if-time-lt32400.false, le-ltb t 43200 c.if-time-lt43200.false, le-leb 48600 t c.if-time-lt48600.false)
