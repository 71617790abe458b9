use lib.ListN.{length}
use mathlib.Core.Path.{◌≡◌}
use Prim.Native.Nat.{ℕ, suc, ◌+◌, ◌^◌, ◌<◌}
use Rattle.numbers.specs.Seven.{groups, encode}
use Rattle.encoding.specs.Put.{put}
use Rattle.encoding.proofs.write_number.Given as goal

abbrev pub invariant-loop-rest : goal.invariant-loop-rest
invariant-loop-rest l =
    (k : ℕ) × (l.rest < 128 ^ suc k) × (l.i + length (groups (suc k) l.rest) ≡ l.at + length (encode l.n)) × (length l.room ≡ length l.initial.room) × (put l.initial.room l.at (encode l.n) ≡ put l.room l.i (groups (suc k) l.rest))

abbrev pub decreases-loop-rest : goal.decreases-loop-rest
decreases-loop-rest l = l.rest
