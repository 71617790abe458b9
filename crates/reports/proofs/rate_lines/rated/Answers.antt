use Rattle.std.specs.Prelude.{Some}
use mathlib.Core.Path.{◌≡◌, sym, ap, ◌∙◌}
use Prim.Native.Nat.{◌<◌}
use native.Mathlib.Omega.{arith}
use Rattle.rates.specs.declared.Settled.{Settled}
use Rattle.memory.specs.Layout.{outcome_at}
use Rattle.standing.specs.Standing.{settled_of, view}
use Rattle.standing.specs.SoundLaws.{sound-long}
use Rattle.reports.specs.Reports.{rated_in}
use Rattle.reports.specs.ShownLaws.{sound-settled, rated-none, rated-at}
use Rattle.reports.proofs.rate_lines.rated.Goals as goal
use Rattle.reports.proofs.rate_lines.rated.Goals.{After-find_outcome, In_ok-k, Start}

abbrev start : After-find_outcome → Start
start c = (goal.at.After-find_outcome c).Start

-- the row that was found is one of the table's, and has what is shown of the code
shown : (c : In_ok-k) →
    let s = start (goal.at.In_ok-k c).After-find_outcome in
    let counts = s.args.counts.now in
    let money = s.args.money.now in
    let k = c.in_ok-k.k in
    (k < 6) × (rated_in (view counts money) s.args.code ≡ Some (settled_of (outcome_at counts money k)))
shown c =
    let s = start (goal.at.In_ok-k c).After-find_outcome in
    rated-at s.requires s.args.code c.in_ok-k.k (sym c.in_ok-k.ensures)

pub find_outcome-requires : goal.find_outcome-requires
find_outcome-requires c = ((sound-long c.requires).counts, sound-settled c.requires)

pub returns-in_err-k : goal.returns-in_err-k
returns-in_err-k c =
    let s = start (goal.at.returns-in_err-k c).After-find_outcome in
    c.from_residual.ensures ∙ sym (rated-none s.requires s.args.code (sym c.in_err-k.ensures))

pub load_outcome-x-requires : goal.load_outcome-x-requires
load_outcome-x-requires c = (sound-long (start (goal.at.load_outcome-x-requires c).After-find_outcome).requires, omega (arith, (shown (goal.at.load_outcome-x-requires c).In_ok-k).0))

pub returns : goal.returns
returns c =
    let s = start (goal.at.returns c).After-find_outcome in
    let same : c.load_outcome-x.result ≡ outcome_at s.args.counts.now s.args.money.now c.in_ok-k.k =
    c.load_outcome-x.ensures in
    ap (λ (t : Settled). Some t) (c.settled_in.ensures ∙ ap settled_of same) ∙ sym (shown (goal.at.returns c).In_ok-k).1
