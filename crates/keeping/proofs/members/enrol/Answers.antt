use mathlib.Core.Path.{sym, subst}
use Rattle.memory.specs.Layout.{Long}
use Rattle.standing.specs.SoundLaws.{sound-long, sound-members, headed-long}
use Rattle.keeping.specs.EnrolLaws.{enrol-reference, enrol-early, enrol-known, enrol-full, enrolled-made}
use Rattle.keeping.proofs.members.enrol.Goals as goal
use Rattle.keeping.proofs.members.enrol.Goals.{After-find_account, Start}

abbrev start : After-find_account → Start
start c = (goal.at.After-find_account c).Start

pub load_header-h-requires : goal.load_header-h-requires
load_header-h-requires c = (sound-long c.requires.0).counts

pub returns-then-h-eq0 : goal.returns-then-h-eq0
returns-then-h-eq0 c =
    enrol-early c.requires.0 c.args.number c.args.limits c.load_header-h.ensures c.if-h-eq0.true

pub find_account-requires : goal.find_account-requires
find_account-requires c =
    let s = c.requires.0 in
    ((sound-long s).counts, sound-members s)

pub returns-in_default : goal.returns-in_default
returns-in_default c =
    let s = start (goal.at.returns-in_default c).After-find_account in
    enrol-known s.requires.0 s.args.number s.args.limits c.load_header-h.ensures
    c.if-h-eq0.false c.find_account.ensures c.in_default.is

pub returns-then-n-ge64 : goal.returns-then-n-ge64
returns-then-n-ge64 c =
    let s = start (goal.at.returns-then-n-ge64 c).After-find_account in
    enrol-full s.requires.0 s.args.number s.args.limits c.load_header-h.ensures
    c.if-h-eq0.false c.find_account.ensures c.in-None.is c.if-n-ge64.true

pub new_account-a-requires : goal.new_account-a-requires
new_account-a-requires c =
    let s = start (goal.at.new_account-a-requires c).After-find_account in
    (s.requires.1, enrol-reference s.requires.0 s.args.number s.args.limits c.load_header-h.ensures)

pub store_header-requires : goal.store_header-requires
store_header-requires c = (sound-long (start (goal.at.store_header-requires c).After-find_account).requires.0).counts

pub store_account-requires : goal.store_account-requires
store_account-requires c =
    let s = start (goal.at.store_account-requires c).After-find_account in
    (subst (λ l. Long l s.args.money.now) (sym c.store_header.ensures) (headed-long s.requires.0 _), c.if-n-ge64.false)

pub returns : goal.returns
returns c =
    let s = start (goal.at.returns c).After-find_account in
    enrolled-made s.requires.0 s.args.number s.args.limits c.load_header-h.ensures
    c.if-h-eq0.false c.find_account.ensures c.in-None.is c.if-n-ge64.false
    c.new_account-a.ensures
    c.store_header.ensures
    c.store_account.ensures.0
    c.store_account.ensures.1
