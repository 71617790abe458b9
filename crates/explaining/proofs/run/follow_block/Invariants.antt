-- Each record brings the end nearer, and keeps the memory and the table of a history.
use Rattle.std.specs.Prelude.{◌≡◌, ◌-◌, length}
use Rattle.desk.specs.Follows.{Followable}
use Rattle.explaining.specs.States.{Reaches}
use Rattle.explaining.proofs.run.follow_block.Given as goal

abbrev pub invariant-loop-q : goal.invariant-loop-q
invariant-loop-q l =
    Followable l.q.account l.counts l.money l.labels l.amounts l.s.rows
    × (Reaches (length l.bytes) l.initial.s l.s
    × ((length l.labels ≡ length l.initial.labels) × ((length l.amounts ≡ length l.initial.amounts) × ((length l.notes ≡ length l.initial.notes) × (length l.page ≡ length l.initial.page)))))

abbrev pub decreases-loop-q : goal.decreases-loop-q
decreases-loop-q l = length l.bytes - l.s.at
