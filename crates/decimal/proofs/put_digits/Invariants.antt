-- The digits still to be put, and then those that are, are the number's.
use mathlib.Core.Path.{◌≡◌}
use mathlib.Core.List.{◌++◌}
use Prim.Native.Nat.{◌≤◌}
use lib.ListN.{length, drop}
use lib.Seq.{slice}
use Rattle.decimal.specs.Digits.{last_digits}
use Rattle.decimal.proofs.put_digits.Given as goal

abbrev pub invariant-loop-left : goal.invariant-loop-left
invariant-loop-left l =
    (length l.room ≡ length l.initial.room) × (l.left ≤ l.count) × (last_digits l.left l.rest ++ slice l.left l.count l.room ≡ last_digits l.count l.number) × (drop l.count l.room ≡ drop l.count l.initial.room)
