use lib.ListN.{length}
use mathlib.Core.Path.{◌≡◌}
use Prim.Native.Nat.{ℕ, suc, ◌+◌, ◌^◌, ◌<◌}
use Rattle.numbers.specs.Seven.{groups, encode}
use Rattle.encoding.proofs.number_size.Given as goal

abbrev pub invariant-loop-left : goal.invariant-loop-left
invariant-loop-left l =
    (k : ℕ) × (l.left < 128 ^ suc k) × (l.count + length (groups (suc k) l.left) ≡ length (encode l.n) + 1)

abbrev pub decreases-loop-left : goal.decreases-loop-left
decreases-loop-left l = l.left
