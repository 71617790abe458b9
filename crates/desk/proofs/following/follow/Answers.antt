use Rattle.std.proofs.lemmas.Result.{err_from_is_err_and}
use Rattle.desk.specs.FollowLaws.{followable-sound, fed-notable, fed-followed, fed-unread, unread-followed}
use Rattle.desk.proofs.following.follow.Goals as goal

pub returns-in_err-read : goal.returns-in_err-read
returns-in_err-read c =
    let p = err_from_is_err_and c.from_residual.result c.from_residual.ensures.1 in
    rw (p.1, p.2) (unread-followed c.in_err-read.ensures)

pub feed-requires : goal.feed-requires
feed-requires c = followable-sound c.requires

pub returns-in_err-fed : goal.returns-in_err-fed
returns-in_err-fed c =
    let p = err_from_is_err_and c.from_residual-in_err-fed.result c.from_residual-in_err-fed.ensures.1 in
    rw (p.1, p.2) (fed-unread c.feed.ensures c.in_err-fed.was)

pub note-rows-requires : goal.note-rows-requires
note-rows-requires c =
    let t = c.requires.trailed in record {
      labels_len = (t.counts-long, t.money-long);
      notable = fed-notable c.feed.ensures c.in_ok-fed.was c.in_ok-read.ensures t;
    }

pub returns : goal.returns
returns c = fed-followed c.feed.ensures c.in_ok-fed.was c.in_ok-read.ensures c.note-rows.ensures
