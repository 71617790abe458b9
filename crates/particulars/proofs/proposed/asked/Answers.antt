-- Each return is one case of what is answered; what was found before it is handed on from place to place.
use mathlib.Core.Path.{◌≡◌, sym, ◌∙◌}
use mathlib.Core.Bool.{true}
use borrow.Author.Tests.{not-true, not-false}
use Rattle.model.specs.Book.{Book}
use Rattle.model.specs.Calls.{Trade}
use Rattle.model.specs.Refusals.{is_open}
use Rattle.standing.specs.Standing.{view}
use Rattle.standing.specs.StandingLaws.{sound-kept, sound-holds}
use Rattle.standing.specs.DealLaws.{Stands}
use Rattle.standing.specs.MemberLaws.{member-none}
use Rattle.standing.specs.SoundLaws.{sound-long, sound-members, sound-listed}
use Rattle.dealing.specs.Dealing.{trade_of}
use Rattle.hours.specs.Searched.{code-at, code-none, number-at, has_here}
use Rattle.particulars.specs.AskedLaws.{open_is, asked-shut, asked-unlisted, asked-unknown, asked-totals}
use Rattle.particulars.proofs.proposed.asked.Goals as goal
use Rattle.particulars.proofs.proposed.asked.Goals.{After-is_open, Else-not-is_open, In_ok-k, In_ok-i, Start}

-- ---- from a place back to the one before it where something was found
abbrev start : After-is_open → Start
start c = (goal.at.After-is_open c).Start

abbrev before-k : In_ok-k → Else-not-is_open
before-k c = (goal.at.In_ok-k c).Else-not-is_open

abbrev before-i : In_ok-i → In_ok-k
before-i c = (goal.at.In_ok-i c).In_ok-k

abbrev start-k : In_ok-k → Start
start-k c = start (goal.at.Else-not-is_open (before-k c)).After-is_open

abbrev start-i : In_ok-i → Start
start-i c = start-k (before-i c)

abbrev book : Start → Book
book s = view s.args.counts.now s.args.money.now

abbrev deal : Start → Trade
deal s = trade_of s.args.t

-- ---- what was found
open_at : (c : After-is_open) → is_open (book (start c)).today.point ≡ c.is_open.result
open_at c = open_is (start c).requires.0 c.load_header-h.ensures c.is_open.ensures

live : (c : Else-not-is_open) → is_open (book (start (goal.at.Else-not-is_open c).After-is_open)).today.point ≡ true
live c = open_at (goal.at.Else-not-is_open c).After-is_open ∙ not-false _ c.if-not-is_open.false-raw

contract : (c : In_ok-k) → let s = start-k c in Stands (book s).contracts.codes (deal s).code c.in_ok-k.k
contract c =
    let h = (start-k c).requires.0 in
    code-at (sound-kept h) (sound-holds h) _ _ (sym c.in_ok-k.ensures)

side : (c : In_ok-i) → let s = start-i c in Stands (book s).accounts.members s.args.number c.in_ok-i.i
side c =
    let h = (start-i c).requires.0 in
    number-at (sound-kept h) (sound-holds h) _ _ (sym c.in_ok-i.ensures)

pub load_header-h-requires : goal.load_header-h-requires
load_header-h-requires c = (sound-long c.requires.0).counts

pub returns-then-not-is_open : goal.returns-then-not-is_open
returns-then-not-is_open c =
    let s = start (goal.at.returns-then-not-is_open c).After-is_open in
    asked-shut (book s) (deal s) s.args.number (open_at (goal.at.returns-then-not-is_open c).After-is_open ∙ not-true _ c.if-not-is_open.true-raw)

pub find_contract-requires : goal.find_contract-requires
find_contract-requires c = let h = (start (goal.at.find_contract-requires c).After-is_open).requires.0 in ((sound-long h).counts, sound-listed h)

pub returns-in_err-k : goal.returns-in_err-k
returns-in_err-k c =
    let s = start (goal.at.returns-in_err-k c).After-is_open in
    let h = s.requires.0 in
    c.from_residual.ensures ∙ asked-unlisted (book s) (deal s) s.args.number (live (goal.at.returns-in_err-k c).Else-not-is_open)
    (code-none (sound-kept h) (sound-holds h) (deal s).code (sym c.in_err-k.ensures))

pub find_account-requires : goal.find_account-requires
find_account-requires c = let h = (start-k (goal.at.find_account-requires c).In_ok-k).requires.0 in ((sound-long h).counts, sound-members h)

pub returns-in_err-i : goal.returns-in_err-i
returns-in_err-i c =
    let s = start-k (goal.at.returns-in_err-i c).In_ok-k in
    let h = s.requires.0 in
    c.from_residual-in_err-i.ensures ∙ asked-unknown (book s) (deal s) s.args.number (live (before-k (goal.at.returns-in_err-i c).In_ok-k)) (has_here (contract (goal.at.returns-in_err-i c).In_ok-k))
    (member-none (sound-kept h) (sound-holds h) s.args.number (sym c.in_err-i.ensures))

pub side_totals-requires : goal.side_totals-requires
side_totals-requires c =
    let s = start-i (goal.at.side_totals-requires c).In_ok-i in record {
      sound = s.requires.0;
      live = live (before-k (before-i (goal.at.side_totals-requires c).In_ok-i));
      contract = contract (before-i (goal.at.side_totals-requires c).In_ok-i);
      side = side (goal.at.side_totals-requires c).In_ok-i;
      range = s.requires.1.0;
      party = s.requires.1.1;
    }

pub returns : goal.returns
returns c =
    let k = before-i (goal.at.returns c).In_ok-i in
    let s = start-i (goal.at.returns c).In_ok-i in
    asked-totals (book s) (deal s) s.args.number (live (before-k k)) (has_here (contract k)) (has_here (side (goal.at.returns c).In_ok-i)) c.side_totals.ensures
