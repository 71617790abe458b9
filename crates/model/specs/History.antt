-- The history of a book: any list of calls from a new book, the latest first, refused ones included; the log of those that
-- were accepted; and what is read off the log.
use Rattle.std.specs.Prelude.{Bool, false, cond, ◌&&◌, ◌||◌, List, [], ◌∷◌, ◌++◌, map, ℕ, zero, suc, eqb, ℤ, pos, ◌+ℤ◌}
use Rattle.lists.specs.Those.{those}
use Rattle.whole.specs.Sums.{sum_z}
use Rattle.records.specs.Records.{Entry}
use Rattle.tallies.specs.Day as day
use Rattle.positions.specs.Deals.{Deal, bought, sold}
use Rattle.booking.specs.Variation.{variation_at}
use Rattle.model.specs.Book.{Book, new, is_listed}
use Rattle.model.specs.Calls.{Call, start, enrol, pay_in, pay_out, release, set_special, set_limits, opening, trade, quote, settle, refresh, close, unknown, Trade, Quote, call_of}
use Rattle.model.specs.Effects.{paid_to, is_ending, settled_at, mark_of}
use Rattle.model.specs.Refusals.{refusal}
use Rattle.model.specs.Answers.{called, Answer, answer}

-- ---- the book after the calls, from any book and from a new one; and the accepted calls with the book before each
unfoldable pub run_from : Book → List Entry → Book
run_from b [] = b
run_from b (e ∷ h) = called (run_from b h) e

abbrev pub run : List Entry → Book
run h = run_from new h

-- what the calls of a list answer, the latest first
unfoldable pub answers_to : List Entry → List Answer
answers_to [] = []
answers_to (e ∷ h) = answer (run h) e ∷ answers_to h

pub record Step : Type 0 where
  pub before : Book
  pub call : Call

abbrev pub step : Book → Call → Step
step b c = record { before = b; call = c }

abbrev pub noted : ℕ → Book → Call → List Step → List Step
noted zero b c l = step b c ∷ l
noted (suc n) b c l = l

unfoldable pub log : List Entry → List Step
log [] = []
log (e ∷ h) = noted (refusal (run h) e) (run h) (call_of e) (log h)

-- the list of calls without the refused ones
abbrev pub kept_call : ℕ → Entry → List Entry → List Entry
kept_call zero e h = e ∷ h
kept_call (suc n) e h = h

unfoldable pub accepted_of : List Entry → List Entry
accepted_of [] = []
accepted_of (e ∷ h) = kept_call (refusal (run h) e) e (accepted_of h)

-- ---- by the kind of call: what is noted of trades, quotes, settlements, closes, and money paid in and out
module _ {A : Type 0} (other : A) (on_trade : Trade → A) (on_quote : Quote → A) (on_settle : A) (on_close on_in on_out : ℤ → A) where
  abbrev pub by_event : Call → A
  by_event (start s) = other
  by_event (enrol n l) = other
  by_event (pay_in n x) = on_in x
  by_event (pay_out n x) = on_out x
  by_event (release n x) = other
  by_event (set_special n x) = other
  by_event (set_limits n l) = other
  by_event (opening o) = other
  by_event (trade t) = on_trade t
  by_event (quote q) = on_quote q
  by_event settle = on_settle
  by_event refresh = other
  by_event (close final) = on_close final
  by_event unknown = other

module _ {A : Type 0} (call : Call) where
  abbrev pub at_trade : (Trade → A) → A → A
  at_trade f a = by_event a f (λ q. a) a (λ z. a) (λ x. a) (λ x. a) call

  abbrev pub at_quote : (Quote → A) → A → A
  at_quote f a = by_event a (λ t. a) f a (λ z. a) (λ x. a) (λ x. a) call

  abbrev pub at_settle : A → A → A
  at_settle s a = by_event a (λ t. a) (λ q. a) s (λ z. a) (λ x. a) (λ x. a) call

  abbrev pub at_close : (ℤ → A) → A → A
  at_close f a = by_event a (λ t. a) (λ q. a) a f (λ x. a) (λ x. a) call

  abbrev pub at_pay_in : (ℤ → A) → A → A
  at_pay_in f a = by_event a (λ t. a) (λ q. a) a (λ z. a) f (λ x. a) call

  abbrev pub at_pay_out : (ℤ → A) → A → A
  at_pay_out f a = by_event a (λ t. a) (λ q. a) a (λ z. a) (λ x. a) f call

-- ---- trades and quotes, in the order of acceptance
-- a trade with its day
pub record Dated : Type 0 where
  pub day : ℕ
  pub deal : Trade

abbrev pub dated : Step → Trade → Dated
dated s t = record { day = s.before.today.day; deal = t }

-- accepted trades
unfoldable pub trades : List Step → List Dated
trades [] = []
trades (s ∷ l) = at_trade s.call (λ t. trades l ++ (dated s t ∷ [])) (trades l)

-- those of closed days: all before the last accepted close
unfoldable pub closed_trades : List Step → List Dated
closed_trades [] = []
closed_trades (s ∷ l) = at_close s.call (λ final. trades l) (closed_trades l)

-- those since: today's; and today's quotes
unfoldable pub todays_trades : List Step → List Dated
todays_trades [] = []
todays_trades (s ∷ l) = at_close s.call (λ final. []) (at_trade s.call (λ t. todays_trades l ++ (dated s t ∷ [])) (todays_trades l))

unfoldable pub todays_quotes : List Step → List Quote
todays_quotes [] = []
todays_quotes (s ∷ l) = at_close s.call (λ final. []) (at_quote s.call (λ q. todays_quotes l ++ (q ∷ [])) (todays_quotes l))

-- ---- as settlement sees them: those of one code
abbrev pub trades_in : ℕ → List Dated → List day.Trade
trades_in c ds = map (λ d. record { time = d.deal.time; lots = d.deal.lots; rate = d.deal.rate }) (those (λ d. eqb c d.deal.code) ds)

abbrev pub quotes_in : ℕ → List Quote → List day.Quote
quotes_in c qs = map (λ q. record { time = q.time; side = q.side; rate = q.rate }) (those (λ q. eqb c q.code) qs)

-- ---- as an account sees them: those of one code in which it is a side, bought or sold
abbrev pub is_side_in : ℕ → ℕ → Trade → Bool
is_side_in n c t = eqb c t.code && (eqb n t.buyer || eqb n t.seller)

abbrev pub own_trades : ℕ → ℕ → List Dated → List Dated
own_trades n c ds = those (λ d. is_side_in n c d.deal) ds

abbrev pub deal_for : ℕ → Trade → Deal
deal_for n t = cond (eqb n t.buyer) (bought t.lots t.rate) (sold t.lots t.rate)

abbrev pub deals_of : ℕ → ℕ → List Dated → List Deal
deals_of n c ds = map (λ d. deal_for n d.deal) (own_trades n c ds)

-- ---- what was booked, and at which rate
-- "variation per account and contract" of a close on a book
abbrev pub variation_in : Book → ℤ → ℕ → ℕ → ℤ
variation_in b final n c = variation_at (b.accounts.position n c) (mark_of b final c)

-- what the accepted closes booked to the account n in the contract c
unfoldable pub booked : ℕ → ℕ → List Step → ℤ
booked n c [] = pos 0
booked n c (s ∷ l) = at_close s.call (λ final. booked n c l +ℤ variation_in s.before final n c) (booked n c l)

-- what they booked to the account n in all contracts that were listed
unfoldable pub booked_to : ℕ → List Step → ℤ
booked_to n [] = pos 0
booked_to n (s ∷ l) =
    at_close s.call (λ final. booked_to n l +ℤ sum_z (map (variation_in s.before final n) s.before.contracts.codes)) (booked_to n l)

-- the latest settlement rate of a code: that of the last accepted close at which it was listed. An ended code keeps its final rate
unfoldable pub latest : ℕ → List Step → ℤ
latest c [] = pos 0
latest c (s ∷ l) = at_close s.call (λ final. cond (is_listed s.before c) (settled_at s.before final c).rate (latest c l)) (latest c l)

-- a code has ended where some accepted close was that of its last trading day
unfoldable pub has_ended : ℕ → List Step → Bool
has_ended c [] = false
has_ended c (s ∷ l) = at_close s.call (λ final. (is_listed s.before c && is_ending s.before c) || has_ended c l) (has_ended c l)

-- ---- money
unfoldable pub paid_in : List Step → ℤ
paid_in [] = pos 0
paid_in (s ∷ l) = at_pay_in s.call (λ x. paid_in l +ℤ x) (paid_in l)

unfoldable pub paid_out : List Step → ℤ
paid_out [] = pos 0
paid_out (s ∷ l) = at_pay_out s.call (λ x. paid_out l +ℤ x) (paid_out l)

-- what settlements moved from the house to the account n
unfoldable pub moved_to : ℕ → List Step → ℤ
moved_to n [] = pos 0
moved_to n (s ∷ l) = at_settle s.call (moved_to n l +ℤ paid_to s.before n) (moved_to n l)
