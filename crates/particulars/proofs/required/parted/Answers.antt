use Rattle.std.specs.Prelude.{Some}
use mathlib.Core.Path.{sym, ap, ◌∙◌}
use Rattle.standing.specs.SoundLaws.{sound-long, sound-members}
use Rattle.particulars.specs.declared.Parts.{Parts}
use Rattle.particulars.specs.RequiredLaws.{PartedAt, parted-none, parted-at}
use Rattle.particulars.proofs.required.parted.Goals as goal
use Rattle.particulars.proofs.required.parted.Goals.{After-find_account, In_ok-i, Start}

abbrev start : After-find_account → Start
start c = (goal.at.After-find_account c).Start

-- the row that was found is one of the table's, and tells the parts of the account
found : (c : In_ok-i) →
    let s = start (goal.at.In_ok-i c).After-find_account in
    PartedAt s.args.counts.now s.args.money.now s.args.number c.in_ok-i.i
found c =
    let s = start (goal.at.In_ok-i c).After-find_account in
    parted-at s.requires s.args.number c.in_ok-i.i (sym c.in_ok-i.ensures)

pub find_account-requires : goal.find_account-requires
find_account-requires c = ((sound-long c.requires).counts, sound-members c.requires)

pub returns-in_err-i : goal.returns-in_err-i
returns-in_err-i c =
    let s = start (goal.at.returns-in_err-i c).After-find_account in
    c.from_residual.ensures ∙ parted-none s.requires s.args.number (sym c.in_err-i.ensures)

pub load_account-a-requires : goal.load_account-a-requires
load_account-a-requires c = (sound-long (start (goal.at.load_account-a-requires c).After-find_account).requires, (found (goal.at.load_account-a-requires c).In_ok-i).below)

pub load_header-h-requires : goal.load_header-h-requires
load_header-h-requires c = (sound-long (start (goal.at.load_header-h-requires c).After-find_account).requires).counts

pub parts_in-requires : goal.parts_in-requires
parts_in-requires c =
    (found (goal.at.parts_in-requires c).In_ok-i).fit c.load_account-a.ensures c.load_header-h.ensures

pub returns : goal.returns
returns c =
    ap (λ (x : Parts). Some x) c.parts_in.ensures
    ∙ (found (goal.at.returns c).In_ok-i).told c.load_account-a.ensures c.load_header-h.ensures
