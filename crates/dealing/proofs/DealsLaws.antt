-- A trade between two members, from what is loaded to what is stored.
use Rattle.std.specs.Prelude.{◌≡◌, List, ℕ, ◌+◌, ◌<◌, ℤ, length, set, Result}
use Rattle.std.proofs.Common.{sym, ap, ap₂, ◌∙◌, subst, arith}
use Rattle.std.proofs.lemmas.List.{length-map}
use Rattle.lists.specs.PaddedLaws.{padded-length}
use Rattle.whole.specs.Within.{Within}
use Rattle.tallies.specs.Bounds.{Sound}
use Rattle.positions.specs.Bounds.{Nets}
use Rattle.positions.specs.Deals.{flat}
use Rattle.holdings.specs.Bounds as holdings
use Rattle.holdings.proofs.BoundLaws.{trade-nets}
use Rattle.holdings.specs.Holdings.{with_trade}
use Rattle.accounts.specs.Accounts.{with_holdings}
use Rattle.accounts.specs.declared.Account.{Account}
use Rattle.memory.specs.declared.header_row.Header.{Header}
use Rattle.memory.specs.declared.contract_rows.Contract.{Contract}
use Rattle.memory.specs.Layout.{Long, contract_at, account_at, with_account_counts, with_account_money}
use Rattle.memory.specs.Memory.{Rows, Holds, Shaped, with_accounts}
use Rattle.memory.specs.MemoryLaws.{memory-long, contract-is, put-account, account-shaped}
use Rattle.model.specs.Book.{Book, positions_of, margins_of}
use Rattle.model.specs.Calls.{Trade}
use Rattle.model.specs.Effects.{lots_for, traded}
use Rattle.model.proofs.KeptLaws.{kept-few}
use Rattle.model.specs.Kept.{Kept}
use Rattle.standing.specs.Standing.{account_row, contract_row, rows_of, view}
use Rattle.standing.specs.StandingLaws.{sound-kept, sound-holds}
use Rattle.standing.specs.SoundLaws.{sound-shaped, sound-long}
use Rattle.standing.specs.MemberLaws.{listed-row, member-account}
use Rattle.standing.specs.DealLaws.{Stands, held-sound, account-after, contract-after, traded-rows}
use Rattle.hours.specs.Clocked.{clocked, rows_written}
use Rattle.dealing.specs.declared.Dealt.{Dealt}
use Rattle.refusals.specs.declared.Refusal.{Refusal}
use Rattle.dealing.specs.Sides.{Moved, judged}
use Rattle.dealing.specs.Parties.{Answers, Deals}
use Rattle.dealing.specs.Written.{traded_row, Writable, Written}
use Rattle.dealing.proofs.TradedLaws.{judged-answers}

-- an account that a trade has moved is as small as its tests ask
pub moved : {a x : Account} {lots rate : ℤ} (row : ℕ) → holdings.Sound 10000 a.holdings → Within 1000 lots → Within 100000 rate
    → x ≡ with_holdings a (with_trade a.holdings row lots rate) → Moved a x
moved row s l r e = record {
  sound = s;
  nets = subst (λ (x : Account). Nets 21000 x.holdings.positions) (sym e) (trade-nets s row l r);
}

module _ {c : List ℕ} {m : List ℤ} {h : Header} {t : Trade} {k i j : ℕ} (d : Deals c m h t k i j) where
  abbrev book : Book
  book = view c m

  abbrev g : Kept book
  g = sound-kept d.sound

  abbrev rows : Rows
  rows = rows_of book

  abbrev next : Book
  next = traded book t

  shaped : Shaped rows
  shaped = sound-shaped d.sound

  -- ---- what is loaded
  pub deals-long : Long c m
  deals-long = sound-long d.sound

  pub row-k : k < 6
  row-k = omega (arith, d.ready.between.contract.below, kept-few g)

  -- the account of a member n in row p
  module _ {n p : ℕ} (s : Stands book.accounts.members n p) where
    pub row_below : p < 64
    row_below = omega (arith, s.below, g.sized.members)

    pub account-in : account_at c m p ≡ account_row book n
    account-in = member-account g (sound-holds d.sound) n p s.below s.here

    pub account-sound : {a : Account} → a ≡ account_at c m p → holdings.Sound 10000 a.holdings
    account-sound e = rw (e ∙ account-in) (held-sound g d.ready.between.live n)

    -- and after the trade
    pub moved-is : {a : Account} {lots : ℤ} → a ≡ account_at c m p → lots_for t n ≡ lots
        → with_holdings a (with_trade a.holdings k lots t.rate) ≡ account_row next n
    moved-is e l =
        ap₂ (λ (a : Account) lots. with_holdings a (with_trade a.holdings k lots t.rate)) (e ∙ account-in) (sym l)
        ∙ sym (account-after g d.ready.between n)

  pub answers : {r : Result Dealt Refusal} {margins : List ℕ} {buyer bought seller sold : Account} → r ≡ judged margins k buyer bought seller sold
      → margins ≡ margins_of book → buyer ≡ account_row book t.buyer → bought ≡ account_row next t.buyer
      → seller ≡ account_row book t.seller → sold ≡ account_row next t.seller → Answers book t r
  answers q ms a x e y = rw (q, ms, a, x, e, y) (judged-answers g d.ready)

  -- ---- what is stored
  abbrev pub sides : Rows
  sides = with_accounts rows (set (set rows.accounts i (account_row next t.buyer)) j (account_row next t.seller))

  six : (n : ℕ) → length (account_row next n).holdings.positions ≡ 6
  six n = padded-length 6 flat (positions_of next n) (rw (length-map book.contracts.codes (next.accounts.position n)) (kept-few g))

  bought-shaped : Shaped (with_accounts rows (set rows.accounts i (account_row next t.buyer)))
  bought-shaped = account-shaped rows shaped i (account_row next t.buyer) (six t.buyer)

  sides-shaped : Shaped sides
  sides-shaped =
      account-shaped (with_accounts rows (set rows.accounts i (account_row next t.buyer))) bought-shaped j (account_row next t.seller)
      (six t.seller)

  pub stored : {c₁ c₂ : List ℕ} {m₁ m₂ : List ℤ} {x y : Account} → x ≡ account_row next t.buyer → y ≡ account_row next t.seller
      → c₁ ≡ with_account_counts c i x → m₁ ≡ with_account_money m i x → c₂ ≡ with_account_counts c₁ j y → m₂ ≡ with_account_money m₁ j y
      → Holds c₂ m₂ sides
  stored e f p q u v =
      rw (u, v, p, q, e, f)
      (put-account (with_accounts rows (set rows.accounts i (account_row next t.buyer))) bought-shaped
      (put-account rows shaped (sound-holds d.sound) i (row_below d.ready.between.buyer) (account_row next t.buyer))
      j (row_below d.ready.between.seller) (account_row next t.seller))

  -- then the contract's row and the header
  module _ {c' : List ℕ} {m' : List ℤ} (s : Holds c' m' sides) where
    contract-in : contract_at c' m' k ≡ contract_row book t.code
    contract-in =
        contract-is sides sides-shaped s k row-k
        ∙ listed-row g k d.ready.between.contract.below
        ∙ ap (contract_row book) d.ready.between.contract.here

    pub sides-writable : Writable c' m' h t k
    sides-writable = record {
      long = memory-long sides sides-shaped s;
      row = row-k;
      tally = subst (λ (x : Contract). Sound x.tally) (sym contract-in) (g.sized.contracts.tallies t.code);
      range = d.range;
      room = rw d.header d.ready.room;
    }

    pub all-written : {c'' : List ℕ} {m'' : List ℤ} → Written c' m' h t k c'' m'' → Holds c'' m'' (rows_of next)
    all-written {c''} {m''} w =
        subst (Holds c'' m'') (traded-rows g d.ready.between)
        (rows_written sides sides-shaped s row-k
        (ap (λ x. traded_row x t) contract-in ∙ sym (contract-after g d.ready.between))
        (ap (λ (x : Header). clocked x t.time (x.trades + 1)) d.header)
        w.counts w.money)
