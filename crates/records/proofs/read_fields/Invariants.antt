use Rattle.std.proofs.Common.{◌≡◌, List, ◌++◌, ℕ, ◌-◌, ◌≤◌, length, drop}
use Rattle.numbers.specs.Several.{many}
use Rattle.decoding.specs.PlaceLaws.{joined}
use Rattle.records.proofs.read_fields.Given as goal

abbrev pub invariant-loop-value : goal.invariant-loop-value
invariant-loop-value l =
    (a : List ℕ) × (l.place ≤ length l.bytes) × (length a ≡ l.value-index) × (l.value-items ≡ a ++ drop l.value-index l.initial.value-items)
    × (many l.n (drop l.at l.bytes) ≡ joined a (many (l.n - l.value-index) (drop l.place l.bytes)))
