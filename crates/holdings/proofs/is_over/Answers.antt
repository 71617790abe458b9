use Rattle.whole.specs.Machine.{told}
use Rattle.whole.specs.Tests.{lt-is}
use Rattle.holdings.specs.Limits.{is_over}
use Rattle.holdings.proofs.is_over.Goals as goal

pub returns-then-t : goal.returns-then-t
unfolding is_over
returns-then-t c =
    let t = c.args.t in
    let limit = told t.limit c.struct_told-1.given.1.1.0.1 in
    let after = told t.after c.struct_told-1.given.1.0.1 in
    let before = told t.before c.struct_told-1.given.0.1 in
    rw (after, before, lt-is limit after c.if-t.true)

pub returns : goal.returns
unfolding is_over
returns c =
    let t = c.args.t in
    let limit = told t.limit c.struct_told-1.given.1.1.0.1 in
    let after = told t.after c.struct_told-1.given.1.0.1 in
    rw (lt-is limit after c.if-t.false)
