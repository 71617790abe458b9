use Prim.Native.Nat.{◌≤◌}
use lib.ListN.{length}
use Rattle.packing.proofs.squeezed.squeeze_words.Given as goal

abbrev pub invariant-loop-byte : goal.invariant-loop-byte
invariant-loop-byte l = l.done ≤ length l.line
