use lib.ListN.{length, take}
use mathlib.Core.Path.{◌≡◌}
use Prim.Native.Nat.{◌+◌}
use Rattle.encoding.specs.Put.{put}
use Rattle.numbers.specs.Several.{write_of}
use Rattle.encoding.proofs.write_numbers.Given as goal

abbrev pub invariant-loop-n : goal.invariant-loop-n
invariant-loop-n l =
    (length l.room ≡ length l.initial.room) × (l.place ≡ l.at + length (write_of (take l.n-index l.list))) × (l.room ≡ put l.initial.room l.at (write_of (take l.n-index l.list)))
