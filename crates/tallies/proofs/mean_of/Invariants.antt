use mathlib.Core.Path.{◌≡◌}
use lib.ListN.{take}
use Rattle.tallies.specs.Means.{mean_of}
use Rattle.tallies.proofs.mean_of.Given as goal

-- the mean of those that the loop has passed
abbrev pub invariant-loop-w : goal.invariant-loop-w
invariant-loop-w l = l.m ≡ mean_of (take l.w-index l.fn.latest)
