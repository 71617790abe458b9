use mathlib.Core.Path.{◌≡◌, refl, sym, ap, ◌∙◌, subst}
use Prim.Native.Nat.{ℕ, ◌<◌}
use Rattle.std.specs.Prelude.{Ok}
use Rattle.std.proofs.lemmas.Result.{err_from_is_err_and}
use lib.IntN.{pos}
use Rattle.whole.specs.Machine.{unsigned}
use Rattle.whole.specs.Amounts.{Amount, amount-pos}
use Rattle.memory.specs.declared.header_row.Header.{Header}
use Rattle.memory.specs.Layout.{Long, header_at}
use Rattle.standing.specs.SoundLaws.{sound-long, sound-members}
use Rattle.places.specs.Places.{place_in}
use Rattle.payments.specs.Payments.{may_pay, paid_by}
use Rattle.payments.specs.PaymentLaws.{pay-refused, payer, payer-sound, paid-made}
use Rattle.payments.proofs.transfer.Goals as goal
use Rattle.payments.proofs.transfer.Goals.{After-paid, After-place_of, Start}

abbrev start : After-place_of → Start
start c = (goal.at.After-place_of c).Start

-- the account's place, by the memory's own header
found : (c : After-place_of) →
    let a = (start c).args in
    let counts = a.counts.now in
    c.place_of.result ≡ place_in counts (may_pay a.way (header_at counts).point) a.number
found c =
    let a = (start c).args in
    c.place_of.ensures
    ∙ ap (λ t. place_in a.counts.now t a.number)
    (c.may_pay-allowed.ensures
    ∙ ap (λ (h : Header). may_pay a.way h.point) c.load_header-h.ensures)

-- the row is one of the table's
row-there : (c : After-place_of) {i : ℕ} → c.place_of.result ≡ Ok i
    → Long (start c).args.counts.now (start c).args.money.now × (i < 64)
row-there c q =
    let a = (start c).args in
    let s = (start c).requires.0 in
    (sound-long s, (payer s a.way a.number (pos a.amount) (found c) q).small)

pub load_header-h-requires : goal.load_header-h-requires
load_header-h-requires c = (sound-long c.requires.0).counts

pub place_of-requires : goal.place_of-requires
place_of-requires c =
    let s = c.requires.0 in
    ((sound-long s).counts, sound-members s)

pub load_account-a-requires : goal.load_account-a-requires
load_account-a-requires c = row-there (goal.at.load_account-a-requires c).After-place_of c.in_ok-i.was

pub returns-in_err-i : goal.returns-in_err-i
returns-in_err-i c =
    let p = err_from_is_err_and c.from_residual.result c.from_residual.ensures.1 in
    let s = start (goal.at.returns-in_err-i c).After-place_of in
    rw (p.1, p.2) (pay-refused s.requires.0 s.args.way s.args.number (pos s.args.amount) (found (goal.at.returns-in_err-i c).After-place_of) c.in_err-i.was)

pub paid-requires : goal.paid-requires
paid-requires c =
    let q = (goal.at.paid-requires c).After-place_of in
    let a = (start q).args in
    let low = (start q).requires.1 in (
      payer-sound (start q).requires.0 a.way a.number (pos a.amount) (found q) c.in_ok-i.was c.load_account-a.ensures,
      subst (Amount 100000000000000) (sym (unsigned low tt).eq) (amount-pos a.amount low),
    )

pub store_account-requires : goal.store_account-requires
store_account-requires c = row-there (goal.at.store_account-requires c).After-place_of c.in_ok-i.was

-- what the payment answers, of the account in the row
answer : (c : After-paid) →
    let a = (start (goal.at.After-paid c).After-place_of).args in
    c.paid.result ≡ paid_by a.way c.load_account-a.result.funds (pos a.amount)
answer c =
    let s = start (goal.at.After-paid c).After-place_of in
    c.paid.ensures ∙ ap (paid_by s.args.way c.load_account-a.result.funds) (unsigned s.requires.1 tt).eq

pub returns-in_err-funds : goal.returns-in_err-funds
returns-in_err-funds c =
    let q = (goal.at.returns-in_err-funds c).After-place_of in
    let a = (start q).args in
    let p = err_from_is_err_and c.from_residual-in_err-funds.result c.from_residual-in_err-funds.ensures.1 in
    rw (p.1, p.2)
    (paid-made (start q).requires.0 a.way a.number (pos a.amount) (found q) c.in_ok-i.was c.load_account-a.ensures
    (sym c.in_err-funds.was ∙ answer (goal.at.returns-in_err-funds c).After-paid)
    refl refl refl)

pub returns : goal.returns
returns c =
    let q = (goal.at.returns c).After-place_of in
    let a = (start q).args in
    paid-made (start q).requires.0 a.way a.number (pos a.amount) (found q) c.in_ok-i.was c.load_account-a.ensures
    (sym c.in_ok-funds.was ∙ answer (goal.at.returns c).After-paid)
    refl
    c.store_account.ensures.0
    c.store_account.ensures.1
