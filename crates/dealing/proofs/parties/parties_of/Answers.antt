-- Each return is one test of the model; what was found before it is handed on from place to place.
use mathlib.Core.Path.{◌≡◌, sym, ap, ◌∙◌}
use mathlib.Core.Bool.{true, ◌||◌}
use mathlib.Core.List.{List}
use native.Mathlib.Omega.{arith}
use borrow.Author.Tests.{eq-eqb, ne_eqb, le-leb, lt-leb, not-true, not-false}
use lib.Dec.{eqb, leb}
use lib.IntN.{ℤ}
use Rattle.std.proofs.lemmas.Result.{err_from_is_err_and}
use Rattle.refusals.specs.declared.Refusal.TheVariants.{NotListed, UnknownAccount}
use Rattle.memory.specs.declared.header_row.Header.{Header}
use Rattle.memory.specs.Memory.{Holds}
use Rattle.memory.specs.MemoryLaws.{header_is}
use Rattle.model.specs.Book.{Book}
use Rattle.model.specs.Calls.{Trade}
use Rattle.model.specs.Refusals.{is_open, in_hours}
use Rattle.model.specs.Kept.{Kept}
use Rattle.standing.specs.Standing.{header_row, rows_of}
use Rattle.standing.specs.StandingLaws.{rows-shaped}
use Rattle.standing.specs.MemberLaws.{member-none}
use Rattle.standing.specs.DealLaws.{Stands, Between}
use Rattle.hours.specs.Searched.{code-at, code-none, number-at, has_here}
use Rattle.dealing.specs.Dealing.{trade_of}
use Rattle.dealing.specs.PartiesLaws.{shut, unlisted, no-buyer, no-seller, one-party, out-of-hours, too-early, full}
use Rattle.dealing.proofs.parties.parties_of.Goals as goal
use Rattle.dealing.proofs.parties.parties_of.Goals.{After-is_open, Else-not-in_hours, Else-not-is_open, Else-t, Else-t-h, In_ok-contract, In_ok-buyer, In_ok-seller, Start}

-- ---- from a place back to the one before it where something was found
abbrev start : After-is_open → Start
start c = (goal.at.After-is_open c).Start

abbrev before-k : In_ok-contract → Else-not-is_open
before-k c = (goal.at.In_ok-contract c).Else-not-is_open

abbrev before-i : In_ok-buyer → In_ok-contract
before-i c = (goal.at.In_ok-buyer c).In_ok-contract

abbrev before-j : In_ok-seller → In_ok-buyer
before-j c = (goal.at.In_ok-seller c).In_ok-buyer

abbrev start-k : In_ok-contract → Start
start-k c = start (goal.at.Else-not-is_open (before-k c)).After-is_open

abbrev start-i : In_ok-buyer → Start
start-i c = start-k (before-i c)

abbrev start-j : In_ok-seller → Start
start-j c = start-i (before-j c)

abbrev deal : Start → Trade
deal s = trade_of s.args.t

-- ---- what was found, of any book that the counts are of
abbrev Of : Book → List ℤ → Start → Type 0
Of b m s = Holds s.args.counts.now m (rows_of b)

module _ {b : Book} {m : List ℤ} (g : Kept b) where
  header : (s : Start) → Of b m s → s.args.h ≡ header_row b
  header s h = s.requires.header ∙ header_is (rows_of b) (rows-shaped g) h

  open_is : (c : After-is_open) → Of b m (start c) → is_open b.today.point ≡ c.is_open.result
  open_is c h = sym (c.is_open.ensures ∙ ap (λ (x : Header). eqb x.point 2 || eqb x.point 3) (header (start c) h))

  live : (c : Else-not-is_open) → Of b m (start (goal.at.Else-not-is_open c).After-is_open) → is_open b.today.point ≡ true
  live c h = open_is (goal.at.Else-not-is_open c).After-is_open h ∙ not-false _ c.if-not-is_open.false-raw

  row-k : (c : In_ok-contract) → Of b m (start-k c) → Stands b.contracts.codes (deal (start-k c)).code c.in_ok-contract.contract
  row-k c h = code-at g h _ _ (sym c.find_contract.ensures ∙ c.in_ok-contract.ensures.ok_part)

  row-i : (c : In_ok-buyer) → Of b m (start-i c) → Stands b.accounts.members (deal (start-i c)).buyer c.in_ok-buyer.buyer
  row-i c h = number-at g h _ _ (sym c.find_account.ensures ∙ c.in_ok-buyer.ensures.ok_part)

  row-j : (c : In_ok-seller) → Of b m (start-j c) → Stands b.accounts.members (deal (start-j c)).seller c.in_ok-seller.seller
  row-j c h = number-at g h _ _ (sym c.find_account-2.ensures ∙ c.in_ok-seller.ensures.ok_part)

  between : (c : Else-t) → Of b m (start-j (goal.at.Else-t c).In_ok-seller)
      → Between b (deal (start-j (goal.at.Else-t c).In_ok-seller)) (before-i (before-j (goal.at.Else-t c).In_ok-seller)).in_ok-contract.contract (before-j (goal.at.Else-t c).In_ok-seller).in_ok-buyer.buyer c.in_ok-seller.seller
  between c h = record {
    live = live (before-k (before-i (before-j (goal.at.Else-t c).In_ok-seller))) h;
    contract = row-k (before-i (before-j (goal.at.Else-t c).In_ok-seller)) h;
    buyer = row-i (before-j (goal.at.Else-t c).In_ok-seller) h;
    seller = row-j (goal.at.Else-t c).In_ok-seller h;
    apart = ne_eqb _ _ c.if-t.false;
  }

pub returns-then-not-is_open : goal.returns-then-not-is_open
returns-then-not-is_open c = λ b m g h. shut b (deal (start (goal.at.returns-then-not-is_open c).After-is_open)) (open_is g (goal.at.returns-then-not-is_open c).After-is_open h ∙ not-true _ c.if-not-is_open.true-raw)

pub returns-in_err-contract : goal.returns-in_err-contract
returns-in_err-contract c = λ b m g h.
    let t = deal (start (goal.at.returns-in_err-contract c).After-is_open) in
    let told = c.in_err-contract.ensures in
    let p = err_from_is_err_and c.from_residual.result c.from_residual.ensures.1 in
    let said : c.in_err-contract.field-0.0 ≡ NotListed = cc (rw told.ok_part at told.value) in
    rw (p.1, p.2, said)
    (unlisted b t (live g (goal.at.returns-in_err-contract c).Else-not-is_open h) (code-none g h t.code (sym c.find_contract.ensures ∙ told.ok_part)))

pub returns-in_err-buyer : goal.returns-in_err-buyer
returns-in_err-buyer c = λ b m g h.
    let t = deal (start-k (goal.at.returns-in_err-buyer c).In_ok-contract) in
    let told = c.in_err-buyer.ensures in
    let p = err_from_is_err_and c.from_residual-in_err-buyer.result c.from_residual-in_err-buyer.ensures.1 in
    let said : c.in_err-buyer.field-0.0 ≡ UnknownAccount = cc (rw told.ok_part at told.value) in
    rw (p.1, p.2, said)
    (no-buyer b t (live g (before-k (goal.at.returns-in_err-buyer c).In_ok-contract) h) (has_here (row-k g (goal.at.returns-in_err-buyer c).In_ok-contract h))
    (member-none g h t.buyer (sym c.find_account.ensures ∙ told.ok_part)))

pub returns-in_err-seller : goal.returns-in_err-seller
returns-in_err-seller c = λ b m g h.
    let t = deal (start-i (goal.at.returns-in_err-seller c).In_ok-buyer) in
    let told = c.in_err-seller.ensures in
    let p = err_from_is_err_and c.from_residual-in_err-seller.result c.from_residual-in_err-seller.ensures.1 in
    let said : c.in_err-seller.field-0.0 ≡ UnknownAccount = cc (rw told.ok_part at told.value) in
    rw (p.1, p.2, said)
    (no-seller b t (live g (before-k (before-i (goal.at.returns-in_err-seller c).In_ok-buyer)) h) (has_here (row-k g (before-i (goal.at.returns-in_err-seller c).In_ok-buyer) h)) (has_here (row-i g (goal.at.returns-in_err-seller c).In_ok-buyer h))
    (member-none g h t.seller (sym c.find_account-2.ensures ∙ told.ok_part)))

pub returns-then-t : goal.returns-then-t
returns-then-t c = λ b m g h.
    let q = before-j (goal.at.returns-then-t c).In_ok-seller in
    one-party b (deal (start-j (goal.at.returns-then-t c).In_ok-seller)) (live g (before-k (before-i q)) h) (has_here (row-k g (before-i q) h)) (has_here (row-i g q h))
    (has_here (row-j g (goal.at.returns-then-t c).In_ok-seller h)) (eq-eqb _ _ c.if-t.true)

-- ---- the hours, the clock and the number of trades
abbrev apart : Else-not-in_hours → Else-t
apart c = (goal.at.Else-not-in_hours c).Else-t

abbrev deal-of : Else-not-in_hours → Trade
deal-of c = deal (start-j (goal.at.Else-t (apart c)).In_ok-seller)

abbrev in-time : Else-t-h → Else-not-in_hours
in-time c = (goal.at.Else-t-h c).Else-not-in_hours

hours : (c : Else-not-in_hours) → in_hours (deal-of c).time ≡ true
hours c = sym c.in_hours.ensures ∙ not-false _ c.if-not-in_hours.false-raw

module _ {b : Book} {m : List ℤ} (g : Kept b) where
  clock : (c : Else-t-h) → Of b m (start-j (goal.at.Else-t (apart (in-time c))).In_ok-seller) → leb b.today.clock (deal-of (in-time c)).time ≡ true
  clock c h =
      let e = ap (λ (x : Header). x.clock) (header g (start-j (goal.at.Else-t (apart (in-time c))).In_ok-seller) h) in
      le-leb b.today.clock (deal-of (in-time c)).time (omega (arith, e, c.if-t-h.false))

pub returns-then-not-in_hours : goal.returns-then-not-in_hours
returns-then-not-in_hours c = λ b m g h.
    out-of-hours b (deal (start-j (goal.at.returns-then-not-in_hours c).In_ok-seller)) (between g (goal.at.returns-then-not-in_hours c).Else-t h) (sym c.in_hours.ensures ∙ not-true _ c.if-not-in_hours.true-raw)

pub returns-then-t-h : goal.returns-then-t-h
returns-then-t-h c = λ b m g h.
    let e = ap (λ (x : Header). x.clock) (header g (start-j (goal.at.Else-t (apart (goal.at.returns-then-t-h c).Else-not-in_hours)).In_ok-seller) h) in
    too-early b (deal-of (goal.at.returns-then-t-h c).Else-not-in_hours) (between g (apart (goal.at.returns-then-t-h c).Else-not-in_hours) h) (hours (goal.at.returns-then-t-h c).Else-not-in_hours) (lt-leb b.today.clock (deal-of (goal.at.returns-then-t-h c).Else-not-in_hours).time (omega (arith, e, c.if-t-h.true)))

pub returns-then-h-ge10000 : goal.returns-then-h-ge10000
returns-then-h-ge10000 c = λ b m g h.
    let p = in-time (goal.at.returns-then-h-ge10000 c).Else-t-h in
    let e = ap (λ (x : Header). x.trades) (header g (start-j (goal.at.Else-t (apart p)).In_ok-seller) h) in
    full b (deal-of p) (between g (apart p) h) (hours p) (clock g (goal.at.returns-then-h-ge10000 c).Else-t-h h) (omega (arith, e, c.if-h-ge10000.true))

pub returns : goal.returns
returns c = λ b m g h.
    let p = in-time (goal.at.returns c).Else-t-h in
    let e = ap (λ (x : Header). x.trades) (header g (start-j (goal.at.Else-t (apart p)).In_ok-seller) h) in record {
      between = between g (apart p) h;
      hours = hours p;
      clock = clock g (goal.at.returns c).Else-t-h h;
      room = omega (arith, e, c.if-h-ge10000.false);
    }
