use Rattle.std.proofs.Common.{◌-◌, length}
use Rattle.book.specs.FeedingLaws.{Running}
use Rattle.book.proofs.bytes.run.Given as goal

abbrev pub invariant-loop-fed : goal.invariant-loop-fed
invariant-loop-fed l = Running l.bytes l.place l.counts l.money

abbrev pub decreases-loop-fed : goal.decreases-loop-fed
decreases-loop-fed l = length l.bytes - l.place
