-- What is found of the trade is of the book that the memory stands for.
use mathlib.Core.Path.{◌∙◌}
use Rattle.std.proofs.lemmas.Result.{err_from_is_err_and}
use Rattle.model.specs.Book.{Book}
use Rattle.standing.specs.Standing.{view}
use Rattle.standing.specs.StandingLaws.{sound-kept, sound-holds}
use Rattle.standing.specs.SoundLaws.{sound-long, sound-header, sound-members, sound-listed}
use Rattle.dealing.proofs.TradedLaws.{refused-traded}
use Rattle.dealing.proofs.trades.trade.Goals as goal
use Rattle.dealing.proofs.trades.trade.Goals.{Start}

abbrev book : Start → Book
book s = view s.args.counts.now s.args.money.now

pub load_header-h-requires : goal.load_header-h-requires
load_header-h-requires c = (sound-long c.requires.0).counts

pub parties_of-requires : goal.parties_of-requires
parties_of-requires c =
    let s = c.requires.0 in
    record { long = (sound-long s).counts; listed = sound-listed s; members = sound-members s; header = c.load_header-h.ensures }

pub trade_between-requires : goal.trade_between-requires
trade_between-requires c =
    let h = c.requires.0 in
    record {
      sound = h;
      header = c.load_header-h.ensures ∙ sound-header h;
      range = c.requires.1;
      ready = rw c.in_ok-rows.was at (c.parties_of.ensures (book (goal.at.trade_between-requires c).Start) c.args.money.now (sound-kept h) (sound-holds h));
    }

pub returns-in_err-rows : goal.returns-in_err-rows
returns-in_err-rows c =
    let h = c.requires.0 in
    let p = err_from_is_err_and c.from_residual.result c.from_residual.ensures.1 in
    rw (p.1, p.2)
    (refused-traded h c.in_err-rows.field-0.0
    (rw c.in_err-rows.was at (c.parties_of.ensures (book (goal.at.returns-in_err-rows c).Start) c.args.money.now (sound-kept h) (sound-holds h))))
