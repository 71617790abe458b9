use borrow.Author.Tests.{lt-leb, le-leb}
use Rattle.tallies.specs.Day.{in_last_hour, window_start}
use Rattle.tallies.proofs.in_last_hour.Goals as goal

pub returns-then-time-ge-WINDOW_START : goal.returns-then-time-ge-WINDOW_START
unfolding in_last_hour
returns-then-time-ge-WINDOW_START c = rw (le-leb window_start c.args.time c.if-time-ge-WINDOW_START.true)

pub returns-else-time-ge-WINDOW_START : goal.returns-else-time-ge-WINDOW_START
unfolding in_last_hour
returns-else-time-ge-WINDOW_START c = rw (lt-leb window_start c.args.time c.if-time-ge-WINDOW_START.false)
