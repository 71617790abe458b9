-- The room lent is as long as what is announced.
use mathlib.Core.Path.{sym}
use native.Mathlib.Omega.{arith}
use lib.ListN.{length-take}
use borrow.Author.Rules.{rules}
use Rattle.book.proofs.bytes.call_announced.Goals as goal

pub returns-then-count-eq0 : goal.returns-then-count-eq0
returns-then-count-eq0 c = record { list = _; long = search rules; called = c.call_read.ensures }

pub slice_bounds-call_read-end-2 : goal.slice_bounds-call_read-end-2
slice_bounds-call_read-end-2 c =
    let few = c.requires.1 in
    simp length-take (omega arith)

pub returns : goal.returns
returns c =
    let few = c.requires.1 in
    record { list = _; long = sym (simp length-take (omega arith)); called = c.call_read-2.ensures }
