use mathlib.Core.Path.{refl}
use Prim.Native.Nat.{◌<◌}
use native.Mathlib.Omega.{arith}
use Rattle.standing.specs.Standing.{view}
use Rattle.desk.specs.Lines.{StoodBefore}
use Rattle.desk.specs.LineLaws.{closed-sound, stood-before, closed-table, code-at, lined-none, lined-table, lined-next, lined-all, lines-explained}
use Rattle.desk.proofs.contract_lines.close_lines.Goals as goal
use Rattle.desk.proofs.contract_lines.close_lines.Goals.{Start}

abbrev before : (c : Start) → StoodBefore (view c.args.counts.now c.args.money.now) c.args.before
before c = stood-before c.requires.just

pub loop-k-init : goal.loop-k-init
loop-k-init c =
    let a = c.args in
    lined-none (view a.counts.now a.money.now) a.labels.now a.amounts.now a.used a.before _ refl

pub line_of-requires-clause-sound : goal.line_of-requires-clause-sound
line_of-requires-clause-sound c = (closed-sound c.requires.just, code-at (before (goal.at.line_of-requires-clause-sound c).Start) c.loop-k.k (omega arith))

pub line_of-requires-clause-within : goal.line_of-requires-clause-within
line_of-requires-clause-within c =
    let k = c.loop-k.k in
    let b = before (goal.at.line_of-requires-clause-within c).Start in
    let q : k < 6 = omega arith in
    (b.nets k q, (b.previous k q, b.rates k q))

pub line_of-requires-clause-table : goal.line_of-requires-clause-table
line_of-requires-clause-table c =
    let a = c.args in
    lined-table (view a.counts.now a.money.now) a.labels.now a.amounts.now a.used a.before c.loop-k.invariant (closed-table c.requires.just)

pub loop-k-preserved : goal.loop-k-preserved
loop-k-preserved c =
    let a = c.args in
    lined-next (view a.counts.now a.money.now) a.labels.now a.amounts.now a.used a.before c.loop-k.invariant
    (before (goal.at.loop-k-preserved c).Start) (omega arith) c.line_of.ensures

pub returns : goal.returns
returns c =
    let a = c.args in
    let all =
    lined-all (view a.counts.now a.money.now) a.labels.now a.amounts.now a.used a.before c.loop-k.invariant
    (before (goal.at.returns c).Start) (omega arith) (omega arith) in
    record { explains = λ n h e final j. lines-explained j all }
