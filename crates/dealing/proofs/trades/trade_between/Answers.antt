-- Both accounts are loaded, moved and asked; where they pass, all that the trade changes is stored.
use mathlib.Core.Path.{◌≡◌, ap₂, ◌∙◌, subst}
use Rattle.std.proofs.lemmas.Result.{err_from_is_err_and}
use lib.IntN.{pos, neg_ℤ, ◌-ℤ◌, +ℤ_idl}
use mir.Syntax.{w64}
use mir.Val.{to_z, of_z}
use Rattle.whole.specs.Within.{lit, within-neg}
use Rattle.whole.specs.Machine.{Reads, now, unsigned, arg, sub, kept, fits, passed}
use Rattle.holdings.specs.Holdings.{with_trade}
use Rattle.accounts.specs.Accounts.{with_holdings}
use Rattle.memory.specs.Memory.{Holds}
use Rattle.model.specs.Book.{Book, margins_of}
use Rattle.model.specs.Calls.{Trade}
use Rattle.model.specs.Effects.{traded}
use Rattle.standing.specs.Standing.{account_row, view}
use Rattle.standing.specs.StandingLaws.{sound-kept, sound-holds}
use Rattle.standing.specs.DealLaws.{margins-sound, margins-are, buyer-lots, seller-lots}
use Rattle.dealing.specs.Dealing.{trade_of}
use Rattle.dealing.specs.Parties.{Answers}
use Rattle.dealing.proofs.TradedLaws.{refused-traded, accepted-traded}
use Rattle.dealing.proofs.DealsLaws.{moved, deals-long, row-k, row_below, account-in, account-sound, moved-is, answers, sides, stored, sides-writable, all-written}
use Rattle.dealing.proofs.trades.trade_between.Goals as goal
use Rattle.dealing.proofs.trades.trade_between.Goals.{After-judge, After-load_margins-margins, After-store_account, After-store_account-2, After-with_lots-bought, After-with_lots-sold, Start}

abbrev book : Start → Book
book s = view s.args.counts.now s.args.money.now

abbrev deal : Start → Trade
deal s = trade_of s.args.t

-- ---- the trade's numbers
lots : (s : Start) → Reads 1000 (to_z w64 s.args.t.lots) (pos s.args.t.lots)
lots s = unsigned s.requires.range.most tt

less : (s : Start) → Reads 1000 (to_z w64 (of_z w64 (pos 0 -ℤ to_z w64 s.args.t.lots))) (neg_ℤ (pos s.args.t.lots))
less s = record {
  eq = (kept (sub (now (lit (pos 0))) (lots s)) tt).eq ∙ +ℤ_idl (neg_ℤ (pos s.args.t.lots));
  within = within-neg (lots s).within;
}

rate : (s : Start) → Reads 100000 (to_z w64 (of_z w64 s.args.t.rate)) s.args.t.rate
rate s = arg s.requires.range.rate tt

-- ---- what is loaded, and the sides after the trade
abbrev start : After-load_margins-margins → Start
start c = (goal.at.After-load_margins-margins c).Start

bought : (c : After-with_lots-bought) → let s = start (goal.at.After-with_lots-bought c).After-load_margins-margins in
    c.with_lots-bought.result ≡ account_row (traded (book s) (deal s)) s.args.t.buyer
bought c =
    let s = start (goal.at.After-with_lots-bought c).After-load_margins-margins in
    c.with_lots-bought.ensures
    ∙ ap₂ (λ l r. with_holdings c.load_account-buyer.result (with_trade c.load_account-buyer.result.holdings s.args.rows.contract l r))
    (lots s).eq (rate s).eq
    ∙ moved-is s.requires s.requires.ready.between.buyer c.load_account-buyer.ensures (buyer-lots (sound-kept s.requires.sound) s.requires.ready.between)

sold : (c : After-with_lots-sold) → let s = start (goal.at.After-with_lots-sold c).After-load_margins-margins in
    c.with_lots-sold.result ≡ account_row (traded (book s) (deal s)) s.args.t.seller
sold c =
    let s = start (goal.at.After-with_lots-sold c).After-load_margins-margins in
    c.with_lots-sold.ensures
    ∙ ap₂ (λ l r. with_holdings c.load_account-seller.result (with_trade c.load_account-seller.result.holdings s.args.rows.contract l r))
    (less s).eq (rate s).eq
    ∙ moved-is s.requires s.requires.ready.between.seller c.load_account-seller.ensures (seller-lots (sound-kept s.requires.sound) s.requires.ready.between)

margins : (c : After-load_margins-margins) → c.load_margins-margins.result ≡ margins_of (book (start c))
margins c = let d = (start c).requires in c.load_margins-margins.ensures ∙ margins-are (sound-kept d.sound) d.ready.between.live (sound-holds d.sound)

-- ---- what they answer
abbrev judging : After-judge → After-load_margins-margins
judging c = (goal.at.After-judge c).After-load_margins-margins

answer : (c : After-judge) → let s = start (judging c) in Answers (book s) (deal s) c.judge.result
answer c =
    let m = judging c in
    let d = (start m).requires in
    answers d c.judge.ensures (margins m)
    (m.load_account-buyer.ensures ∙ account-in d d.ready.between.buyer)
    (bought (goal.at.After-judge c).After-with_lots-bought)
    (m.load_account-seller.ensures ∙ account-in d d.ready.between.seller)
    (sold (goal.at.After-judge c).After-with_lots-sold)

-- ---- what is stored
abbrev accepted : After-store_account → After-judge
accepted c = (goal.at.After-store_account c).After-judge

abbrev first-stored : After-store_account-2 → After-store_account
first-stored c = (goal.at.After-store_account-2 c).After-store_account

abbrev start-stored : After-store_account-2 → Start
start-stored c = start (judging (accepted (first-stored c)))

both : (c : After-store_account-2) → Holds c.store_account-2.new.counts c.store_account-2.new.money (sides (start-stored c).requires)
both c =
    let first = first-stored c in
    let q = accepted first in
    stored (start-stored c).requires (bought (goal.at.After-judge q).After-with_lots-bought) (sold (goal.at.After-judge q).After-with_lots-sold)
    first.store_account.ensures.0 first.store_account.ensures.1 c.store_account-2.ensures.0 c.store_account-2.ensures.1

pub load_account-buyer-requires : goal.load_account-buyer-requires
load_account-buyer-requires c =
    let d = c.requires in (deals-long d, row_below d d.ready.between.buyer)

pub load_account-seller-requires : goal.load_account-seller-requires
load_account-seller-requires c =
    let d = c.requires in (deals-long d, row_below d d.ready.between.seller)

pub load_margins-margins-requires : goal.load_margins-margins-requires
load_margins-margins-requires c =
    (deals-long c.requires).counts

pub with_lots-bought-requires : goal.with_lots-bought-requires
with_lots-bought-requires c =
    let s = start c in (
      account-sound s.requires s.requires.ready.between.buyer c.load_account-buyer.ensures,
      (row-k s.requires, (passed (lots s), passed (rate s))),
    )

pub overflow_sub-lots : goal.overflow_sub-lots
overflow_sub-lots c = fits (sub (now (lit (pos 0))) (lots (start (goal.at.overflow_sub-lots c).After-load_margins-margins))) tt

pub with_lots-sold-requires : goal.with_lots-sold-requires
with_lots-sold-requires c =
    let s = start (goal.at.with_lots-sold-requires c).After-load_margins-margins in (
      account-sound s.requires s.requires.ready.between.seller c.load_account-seller.ensures,
      (row-k s.requires, (passed (less s), passed (rate s))),
    )

pub judge-requires : goal.judge-requires
judge-requires c =
    let s = start (goal.at.judge-requires c).After-load_margins-margins in
    let buyer = account-sound s.requires s.requires.ready.between.buyer c.load_account-buyer.ensures in
    let seller = account-sound s.requires s.requires.ready.between.seller c.load_account-seller.ensures in (
      moved s.args.rows.contract buyer (passed (lots s)) (passed (rate s)) c.with_lots-bought.ensures,
      (
        moved s.args.rows.contract seller (passed (less s)) (passed (rate s)) c.with_lots-sold.ensures,
        (row-k s.requires, rw (margins (goal.at.judge-requires c).After-load_margins-margins) (margins-sound (sound-kept s.requires.sound) s.requires.ready.between.live)),
      ),
    )

pub returns-in_err-dealt : goal.returns-in_err-dealt
returns-in_err-dealt c =
    let s = start (judging (goal.at.returns-in_err-dealt c).After-judge) in
    let p = err_from_is_err_and c.from_residual.result c.from_residual.ensures.1 in
    rw (p.1, p.2)
    (refused-traded s.requires.sound c.in_err-dealt.field-0.0 (subst (Answers (book s) (deal s)) c.in_err-dealt.was (answer (goal.at.returns-in_err-dealt c).After-judge)))

pub store_account-requires : goal.store_account-requires
store_account-requires c =
    let d = (start (judging (goal.at.store_account-requires c).After-judge)).requires in (deals-long d, row_below d d.ready.between.buyer)

pub store_account-requires-2 : goal.store_account-requires-2
store_account-requires-2 c =
    let d = (start (judging (accepted (goal.at.store_account-requires-2 c).After-store_account))).requires in
    let same = c.store_account.auto in
    (record { counts = same.counts ∙ (deals-long d).counts; money = same.money ∙ (deals-long d).money }, row_below d d.ready.between.seller)

pub write_trade-requires : goal.write_trade-requires
write_trade-requires c =
    let d = (start-stored (goal.at.write_trade-requires c).After-store_account-2).requires in
    sides-writable d (both (goal.at.write_trade-requires c).After-store_account-2)

pub returns : goal.returns
returns c =
    let s = start-stored (goal.at.returns c).After-store_account-2 in
    let first = first-stored (goal.at.returns c).After-store_account-2 in
    accepted-traded s.requires.sound (subst (Answers (book s) (deal s)) first.in_ok-dealt.was (answer (accepted first)))
    (all-written s.requires (both (goal.at.returns c).After-store_account-2) c.write_trade.ensures)
