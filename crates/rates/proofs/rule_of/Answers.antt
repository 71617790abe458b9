use borrow.Author.Tests.{lt-leb, le-leb}
use Rattle.tallies.specs.Tally.{side_in}
use Rattle.rates.specs.Rules.{rule_at}
use Rattle.rates.proofs.rule_of.Goals as goal

pub returns-then-ending : goal.returns-then-ending
unfolding rule_at
returns-then-ending c = rw c.if-ending.true

pub returns-then-t-ge5 : goal.returns-then-t-ge5
unfolding rule_at
returns-then-t-ge5 c =
    rw (c.if-ending.false, le-leb 5 c.args.t.late c.if-t-ge5.true)

pub returns-then-t-ge5-2 : goal.returns-then-t-ge5-2
unfolding rule_at
returns-then-t-ge5-2 c =
    let few-late = c.before.before in
    let t = c.args.t in
    rw (c.if-ending.false, lt-leb 5 t.late c.if-t-ge5.false, le-leb 5 t.trades c.if-t-ge5-2.true)

pub returns-then-bids-lt1 : goal.returns-then-bids-lt1
unfolding rule_at
returns-then-bids-lt1 c =
    let few = c.before.before.before.before in
    let few-late = few.before.before in
    let t = c.args.t in
    rw (
      c.if-ending.false,
      lt-leb 5 t.late c.if-t-ge5.false,
      lt-leb 5 t.trades c.if-t-ge5-2.false,
      lt-leb 1 (side_in t 0).weight c.if-bids-lt1.true,
    )

pub returns-then-offers-lt1 : goal.returns-then-offers-lt1
unfolding rule_at
returns-then-offers-lt1 c =
    let bid = c.before.before.before in
    let few = bid.before.before.before.before in
    let few-late = few.before.before in
    let t = c.args.t in
    rw (
      c.if-ending.false,
      lt-leb 5 t.late c.if-t-ge5.false,
      lt-leb 5 t.trades c.if-t-ge5-2.false,
      le-leb 1 (side_in t 0).weight c.if-bids-lt1.false,
      lt-leb 1 (side_in t 1).weight c.if-offers-lt1.true,
    )

pub returns : goal.returns
unfolding rule_at
returns c =
    let bid = c.before.before.before in
    let few = bid.before.before.before.before in
    let few-late = few.before.before in
    let t = c.args.t in
    rw (
      c.if-ending.false,
      lt-leb 5 t.late c.if-t-ge5.false,
      lt-leb 5 t.trades c.if-t-ge5-2.false,
      le-leb 1 (side_in t 0).weight c.if-bids-lt1.false,
      le-leb 1 (side_in t 1).weight c.if-offers-lt1.false,
    )
