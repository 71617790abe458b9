use Rattle.std.proofs.Common.{◌≡◌, List, ◌++◌, ℕ, ◌-◌, ◌≤◌, length, drop}
use Rattle.numbers.specs.Several.{many}
use Rattle.decoding.specs.PlaceLaws.{joined}
use Rattle.decoding.proofs.read_numbers.Given as goal

abbrev pub invariant-loop-slot : goal.invariant-loop-slot
invariant-loop-slot l =
    (a : List ℕ) × (l.from ≤ length l.bytes) × (length a ≡ l.slot-index) × (l.room ≡ a ++ drop l.slot-index l.initial.room)
    × (many (length l.initial.room) (drop l.at l.bytes) ≡ joined a (many (length l.initial.room - l.slot-index) (drop l.from l.bytes)))
