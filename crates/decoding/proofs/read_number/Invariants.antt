use mathlib.Core.Path.{◌≡◌}
use Prim.Native.Nat.{◌+◌, ◌^◌, ◌≤◌, ◌<◌}
use lib.ListN.{drop}
use Rattle.numbers.specs.Seven.{unbounded, decode}
use Rattle.decoding.specs.Groups.{onward}
use Rattle.decoding.proofs.read_number.Given as goal

abbrev pub invariant-loop-i : goal.invariant-loop-i
invariant-loop-i l =
    (l.i ≤ 8) × (l.value < l.scale) × (l.scale ≡ 128 ^ (l.i + 1)) × (decode (drop l.at l.bytes) ≡ onward l.value l.scale (unbounded (drop (l.at + 1 + l.i) l.bytes)))
