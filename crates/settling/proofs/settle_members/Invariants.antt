use mathlib.Core.Path.{◌≡◌}
use Rattle.memory.specs.Memory.{Holds}
use Rattle.standing.specs.Standing.{rows_of, view}
use Rattle.standing.specs.WalkLaws.{walked}
use Rattle.settling.specs.SettlingLaws.{settled_row, house_after}
use Rattle.settling.proofs.settle_members.Given as goal

abbrev pub invariant-loop-i : goal.invariant-loop-i
invariant-loop-i l =
    let b = view l.initial.counts l.initial.money in Holds l.counts l.money (walked (rows_of b) settled_row l.i) × (l.house ≡ house_after b l.i)
