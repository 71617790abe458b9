use mathlib.Core.Path.{subst}
use native.Mathlib.Omega.{arith}
use Rattle.whole.specs.Machine.{back}
use Rattle.memory.specs.Layout.{Long}
use Rattle.memory.specs.MemoryLaws.{memory-long}
use Rattle.standing.specs.CloseRows.{priced}
use Rattle.standing.specs.Turns.{Whole}
use Rattle.day_end.specs.TurnLaws.{priceable-still, priced-step, priced-end}
use Rattle.day_end.proofs.outcomes.store_outcomes.Goals as goal
use Rattle.day_end.proofs.outcomes.store_outcomes.Goals.{At-loop-k}

long : (c : At-loop-k) → Long c.loop-k.counts c.loop-k.money
long c =
    let p = c.requires in
    let w = c.loop-k.invariant p.rows p.whole in
    memory-long _ w.shaped w.holds

pub outcome_at-o-requires : goal.outcome_at-o-requires
outcome_at-o-requires c =
    let p = c.requires in
    (record { rows = _; whole = c.loop-k.invariant p.rows p.whole; known = priceable-still _ p.known }, omega arith)

pub store_outcome-requires : goal.store_outcome-requires
store_outcome-requires c = (long (goal.at.store_outcome-requires c).At-loop-k, omega arith)

pub loop-k-preserved : goal.loop-k-preserved
loop-k-preserved c r w =
    let l = c.loop-k in
    let now = l.invariant r w in
    priced-step _ r w.shaped l.k (omega arith) now
    (c.outcome_at-o.ensures _ now)
    c.store_outcome.ensures.0
    c.store_outcome.ensures.1

pub returns : goal.returns
returns c r w =
    let l = c.loop-k in
    subst (λ z. Whole l.counts l.money (priced z r)) (back c.ranges.final_rate)
    (priced-end _ r w.shaped l.k (omega arith) (l.invariant r w))
