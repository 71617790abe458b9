use mathlib.Core.Path.{◌∙◌}
use mir.Syntax.{w64}
use mir.Val.{to_z, of_z}
use Rattle.whole.specs.Machine.{Reads, arg, held, told, passed}
use Rattle.model.specs.Effects.{lots_for}
use Rattle.dealing.specs.Dealing.{trade_of}
use Rattle.particulars.specs.AskedLaws.{lots-within, proposed-long, row-k, row-i, side-sound, nets-after, margins-fit, totals-are}
use Rattle.particulars.proofs.proposed.side_totals.Goals as goal
use Rattle.particulars.proofs.proposed.side_totals.Goals.{After-load_account-a, After-lots_of-lots, Start}

abbrev start : After-load_account-a → Start
start c = (goal.at.After-load_account-a c).Start

-- ---- the trade's numbers
rate : (s : Start) → Reads 100000 (to_z w64 (of_z w64 s.args.t.rate)) s.args.t.rate
rate s = arg s.requires.range.rate tt

lots : (c : After-lots_of-lots)
    → let s = start (goal.at.After-lots_of-lots c).After-load_account-a in
    Reads 1000 (to_z w64 (of_z w64 c.lots_of-lots.result)) (lots_for (trade_of s.args.t) s.args.number)
lots c =
    let s = start (goal.at.After-lots_of-lots c).After-load_account-a in
    held (told c.lots_of-lots.result c.lots_of-lots.type_inv ∙ c.lots_of-lots.ensures) (lots-within (trade_of s.args.t) s.args.number s.requires.range)

pub load_account-a-requires : goal.load_account-a-requires
load_account-a-requires c = let d = c.requires in (proposed-long d, row-i d)

pub load_margins-margins-requires : goal.load_margins-margins-requires
load_margins-margins-requires c = (proposed-long (start c).requires).counts

pub with_trade-after-requires : goal.with_trade-after-requires
with_trade-after-requires c =
    let s = start (goal.at.with_trade-after-requires c).After-load_account-a in
    (side-sound s.requires c.load_account-a.ensures, (row-k s.requires, (passed (lots (goal.at.with_trade-after-requires c).After-lots_of-lots), passed (rate s))))

pub totals_of-requires : goal.totals_of-requires
totals_of-requires c =
    let s = start (goal.at.totals_of-requires c).After-load_account-a in
    let a = c.load_account-a.ensures in (
      side-sound s.requires a,
      (
        nets-after s.requires a (passed (lots (goal.at.totals_of-requires c).After-lots_of-lots)) (passed (rate s)) c.with_trade-after.ensures,
        margins-fit s.requires c.load_margins-margins.ensures,
      ),
    )

pub returns : goal.returns
returns c =
    let s = start (goal.at.returns c).After-load_account-a in
    c.totals_of.ensures
    ∙ totals-are s.requires c.load_account-a.ensures c.load_margins-margins.ensures c.with_trade-after.ensures (lots (goal.at.returns c).After-lots_of-lots).eq (rate s).eq
