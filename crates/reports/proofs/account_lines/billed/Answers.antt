use Rattle.std.specs.Prelude.{Some}
use mathlib.Core.Path.{◌≡◌, sym, ap, ◌∙◌}
use Prim.Native.Nat.{◌<◌}
use Rattle.memory.specs.Layout.{account_at}
use Rattle.standing.specs.Standing.{view}
use Rattle.standing.specs.SoundLaws.{sound-long, sound-members}
use Rattle.reports.specs.declared.Bill.{Bill}
use Rattle.reports.specs.Reports.{bill_at, billed_in}
use Rattle.reports.specs.ShownLaws.{billed-none, billed-at}
use Rattle.reports.proofs.account_lines.billed.Goals as goal
use Rattle.reports.proofs.account_lines.billed.Goals.{After-find_account, In_ok-i, Start}

abbrev start : After-find_account → Start
start c = (goal.at.After-find_account c).Start

-- the row that was found is one of the table's, and has what is shown of the account
shown : (c : In_ok-i) →
    let s = start (goal.at.In_ok-i c).After-find_account in
    let counts = s.args.counts.now in
    let money = s.args.money.now in
    let i = c.in_ok-i.i in
    (i < 64) × (billed_in (view counts money) s.args.number ≡ Some (bill_at (account_at counts money i)))
shown c =
    let s = start (goal.at.In_ok-i c).After-find_account in
    billed-at s.requires s.args.number c.in_ok-i.i (sym c.in_ok-i.ensures)

pub find_account-requires : goal.find_account-requires
find_account-requires c = ((sound-long c.requires).counts, sound-members c.requires)

pub returns-in_err-i : goal.returns-in_err-i
returns-in_err-i c =
    let s = start (goal.at.returns-in_err-i c).After-find_account in
    c.from_residual.ensures ∙ sym (billed-none s.requires s.args.number (sym c.in_err-i.ensures))

pub load_account-a-requires : goal.load_account-a-requires
load_account-a-requires c = (sound-long (start (goal.at.load_account-a-requires c).After-find_account).requires, (shown (goal.at.load_account-a-requires c).In_ok-i).0)

pub returns : goal.returns
returns c =
    ap (λ (b : Bill). Some b) (c.bill_in.ensures ∙ ap bill_at c.load_account-a.ensures) ∙ sym (shown (goal.at.returns c).In_ok-i).1
