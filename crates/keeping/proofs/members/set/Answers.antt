use mathlib.Core.Path.{◌≡◌, ap, ◌∙◌}
use Prim.Native.Nat.{ℕ, ◌<◌}
use Rattle.std.specs.Prelude.{Ok}
use Rattle.std.proofs.lemmas.Result.{err_from_is_err_and}
use lib.Dec.{ltb}
use Rattle.accounts.specs.Accounts.{with_holdings}
use Rattle.memory.specs.declared.header_row.Header.{Header}
use Rattle.memory.specs.Layout.{Long, header_at}
use Rattle.standing.specs.SoundLaws.{sound-long, sound-members}
use Rattle.places.specs.Places.{place_in}
use Rattle.keeping.specs.ChangeLaws.{change-refused, changer, changed-made}
use Rattle.keeping.proofs.members.set.Goals as goal
use Rattle.keeping.proofs.members.set.Goals.{After-place_of, Start}

abbrev start : After-place_of → Start
start c = (goal.at.After-place_of c).Start

-- the account's place, by the memory's own header
found : (c : After-place_of) →
    let a = (start c).args in
    let counts = a.counts.now in
    c.place_of.result ≡ place_in counts (ltb 0 (header_at counts).point) a.number
found c =
    let a = (start c).args in
    c.place_of.ensures
    ∙ ap (λ (h : Header). place_in a.counts.now (ltb 0 h.point) a.number) c.load_header-h.ensures

-- the row is one of the table's
row-there : (c : After-place_of) {i : ℕ} → c.place_of.result ≡ Ok i
    → Long (start c).args.counts.now (start c).args.money.now × (i < 64)
row-there c q =
    let a = (start c).args in
    let s = (start c).requires in
    (sound-long s, (changer s a.number a.change (found c) q).small)

pub load_header-h-requires : goal.load_header-h-requires
load_header-h-requires c = (sound-long c.requires).counts

pub place_of-requires : goal.place_of-requires
place_of-requires c =
    let s = c.requires in
    ((sound-long s).counts, sound-members s)

pub load_account-a-requires : goal.load_account-a-requires
load_account-a-requires c = row-there (goal.at.load_account-a-requires c).After-place_of c.in_ok-i.was

pub store_account-requires : goal.store_account-requires
store_account-requires c =
    row-there (goal.at.store_account-requires c).After-place_of c.in_ok-i.was

pub returns-in_err-i : goal.returns-in_err-i
returns-in_err-i c =
    let p = err_from_is_err_and c.from_residual.result c.from_residual.ensures.1 in
    let s = start (goal.at.returns-in_err-i c).After-place_of in
    rw (p.1, p.2) (change-refused s.requires s.args.number s.args.change (found (goal.at.returns-in_err-i c).After-place_of) c.in_err-i.was)

pub returns : goal.returns
returns c =
    let a = (start (goal.at.returns c).After-place_of).args in
    changed-made (start (goal.at.returns c).After-place_of).requires a.number a.change (found (goal.at.returns c).After-place_of) c.in_ok-i.was
    c.load_account-a.ensures
    (ap (with_holdings c.load_account-a.result) c.changed-a.ensures)
    c.store_account.ensures.0
    c.store_account.ensures.1
