use Rattle.std.proofs.Common.{◌≡◌, ◌≤◌, ◌-◌, length, drop}
use Rattle.numbers.specs.Several.{many}
use Rattle.decoding.specs.Place.{ended}
use Rattle.decoding.proofs.skip_numbers.Given as goal

abbrev pub invariant-loop : goal.invariant-loop
invariant-loop l =
    (l.place ≤ length l.bytes) × (ended l.bytes (many l.n (drop l.at l.bytes)) ≡ ended l.bytes (many (l.n - l.counter) (drop l.place l.bytes)))
