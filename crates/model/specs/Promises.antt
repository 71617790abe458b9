-- What the book promises after any list of calls, refused ones included: demand 3, and what demand 2 says of trades, opens and closes.
-- Here the statements only; PromiseLaws has the theorem.
use Rattle.std.specs.Prelude.{◌≡◌, true, false, cond, List, [], ◌∷◌, ◌++◌, map, ◌⊎◌, ℕ, suc, ◌≤◌, ◌<◌, ℤ, pos, ◌+ℤ◌, ◌-ℤ◌, ◌*ℤ◌, get_or, ◌≤ℤ◌, None}
use Rattle.lists.specs.Has.{has, place_of}
use Rattle.lists.specs.Tabulate.{tab}
use Rattle.lists.specs.All.{All}
use Rattle.whole.specs.Sums.{sum_z}
use Rattle.whole.specs.Over.{sum_over}
use Rattle.whole.specs.Larger.{larger}
use Rattle.months.specs.Months.{months, settlement_day}
use Rattle.calendar.specs.Listing.{is_listed as listed_on, settles}
use Rattle.records.specs.Records.{Entry}
use Rattle.rates.specs.Rules as rules
use Rattle.positions.specs.Deals.{Deal, lots_of}
use Rattle.booking.specs.Variation.{variation_of}
use Rattle.holdings.specs.declared.Totals.{Totals}
use Rattle.model.specs.Book.{Book, unopened, ended, is_member, is_listed, working}
use Rattle.model.specs.Calls.{Trade, Opening, call_of, opening, trade, close}
use Rattle.model.specs.Effects.{codes_on, is_ending}
use Rattle.model.specs.Refusals.{refusal}
use Rattle.model.specs.Answers.{called, Answer, answer, both_sides, report, report_of, refusal_of}
use Rattle.model.specs.History.{Step, run, log, accepted_of, Dated, trades, closed_trades, todays_trades, todays_quotes, trades_in, quotes_in, own_trades, deal_for, deals_of, booked, booked_to, latest, has_ended, paid_in, paid_out, moved_to, variation_in}
use Rattle.model.specs.Bounds.{total_in, limit_in, Bounded, SumsFit}

-- "one rate unit on one lot is 250 fen exactly": signed lots x 250 x (rate - traded rate)
abbrev pub worth_at : ℤ → Deal → ℤ
worth_at rate d = d.lots *ℤ (pos 250 *ℤ (rate -ℤ d.rate))

-- a side of an accepted trade: "each side's total before and after and its limit"
abbrev pub side_of : Book → Book → ℕ → Totals
side_of b after n = record { before = total_in b n; after = total_in after n; limit = limit_in b n }

-- the lines of a desk's question: each of the account's trades of the day in a contract, and the position that was carried over
pub data Line : Type 0 where
  made_today : Trade → Line
  carried_over : ℤ → ℤ → Line

abbrev pub amount_of : ℕ → ℤ → Line → ℤ
amount_of n rate (made_today t) = worth_at rate (deal_for n t)
amount_of n rate (carried_over net previous) = net *ℤ (pos 250 *ℤ (rate -ℤ previous))

abbrev pub lines_of : ℕ → ℕ → List Dated → ℤ → ℤ → List Line
lines_of n c today net previous = map (λ d. made_today d.deal) (own_trades n c today) ++ (carried_over net previous ∷ [])

-- ---- a refused call
-- "the next working day after the one closed": it works, and no day between the two does
pub record NextDay (b : Book) (d : ℕ) : Type 0 where
  pub closed : b.today.point ≡ ended
  pub later : b.today.day < d
  pub inside : d ≤ 3652
  pub works : working b d ≡ true
  pub first : (k : ℕ) → b.today.day < k → k < d → working b k ≡ false

-- "A refusal returns its number .. and changes nothing." Request L2: "20 returns the expected day". No other returns more than its number
pub record RefusedKept (b after : Book) (a : Answer) (n : ℕ) : Type 0 where
  pub stays : after ≡ b
  pub number : (refusal_of a).number ≡ n
  pub alone : (n ≡ 20 → ⊥) → (refusal_of a).values ≡ []
  pub expects : n ≡ 20 → (d : ℕ) × (((refusal_of a).values ≡ d ∷ []) × NextDay b d)

-- ---- the day of an open, by what the open is answered
-- "First open: any working day; later ones: the next working day after the one closed."
abbrev pub InTurn : Book → ℕ → Type 0
InTurn b day = (b.today.point ≡ unopened) ⊎ NextDay b day

-- Request L2: "tested in that order: a day off, not the next working day, a listed month without a settlement day in the calendar". 0 is none of
-- these; 2 and 3 come before them and tell nothing of the day
pub record DayTold (b : Book) (day n : ℕ) : Type 0 where
  pub off : n ≡ 19 → working b day ≡ false
  pub not-next : n ≡ 20 → (working b day ≡ true) × ((d : ℕ) × (NextDay b d × (day ≡ d → ⊥)))
  pub unsettled : n ≡ 21 → (working b day ≡ true) × (InTurn b day × ((m : ℕ) × ((listed_on (working b) day m ≡ true) × (settlement_day (working b) m ≡ None))))
  pub none : n ≡ 0 → (working b day ≡ true) × (InTurn b day × ((m : ℕ) → m < months → listed_on (working b) day m ≡ true → settles (working b) m ≡ true))
  pub only : has n (0 ∷ 2 ∷ 3 ∷ 19 ∷ 20 ∷ 21 ∷ []) ≡ true

-- ---- an accepted trade
-- Demand 3: "no accepted trade lifts a total above both its limit and the total before".
pub record TradeKept (b after : Book) (a : Answer) (t : Trade) : Type 0 where
  pub answers : a ≡ both_sides (side_of b after t.buyer) (side_of b after t.seller)
  pub lifts-none : (n : ℕ) → total_in after n ≤ℤ larger (limit_in b n) (total_in b n)

-- ---- an accepted open
pub record OpenKept (b after : Book) (o : Opening) : Type 0 where
  pub codes : after.contracts.codes ≡ codes_on b o.day
  pub stays : (c : ℕ) → is_listed b c ≡ true → is_listed after c ≡ true
  pub nets : (n c : ℕ) → (after.accounts.position n c).net ≡ cond (is_listed b c) (b.accounts.position n c).net (pos 0)
  pub previous : (c : ℕ) → is_listed after c ≡ true
      → (after.contracts.terms c).previous
      ≡ cond (is_listed b c) (b.contracts.terms c).previous (get_or o.rates (place_of c after.contracts.codes) (pos 0))
  pub margin : (c : ℕ) → is_listed after c ≡ true
      → (after.contracts.terms c).margin
      ≡ cond (is_listed b c) (b.contracts.terms c).margin (get_or o.margins (place_of c after.contracts.codes) 0)

-- ---- an accepted close, after a history with the log l
pub record CloseKept (b after : Book) (a : Answer) (l : List Step) (final : ℤ) : Type 0 where
  pub answers : a ≡ report (report_of after)
  -- rate, rule and count
  pub settles : (c : ℕ) → is_listed b c ≡ true
      → after.results.settled c
      ≡ rules.settled (trades_in c (todays_trades l)) (quotes_in c (todays_quotes l)) (b.contracts.terms c).previous (is_ending b c) final
  -- "250 x (sum over today's trades of signed lots x (rate - traded rate) + net before today x (rate - previous rate))", where the net
  -- before today is that of the account's trades of the closed days
  pub books : (n c : ℕ) → is_listed b c ≡ true
      → variation_in b final n c
      ≡ variation_of (deals_of n c (todays_trades l)) (lots_of (deals_of n c (closed_trades l))) (b.contracts.terms c).previous (after.results.settled c).rate
  -- "added to the account's due"
  pub bills : (n : ℕ) → is_member b n ≡ true
      → ((after.accounts.held n).variation ≡ sum_over (variation_in b final n) b.contracts.codes)
      × ((after.accounts.funds n).due ≡ (b.accounts.funds n).due +ℤ sum_over (variation_in b final n) b.contracts.codes)
  -- "an ending contract's positions become zero; then day-end total at the positions left"
  pub nets : (n c : ℕ) → (after.accounts.position n c).net ≡ cond (is_ending b c) (pos 0) (b.accounts.position n c).net
  pub day-ends : (n : ℕ) → is_member b n ≡ true → (after.accounts.held n).dayend ≡ total_in after n
  -- who stays is marked from the new rate on, at its margin rate
  pub stays : (c : ℕ) → is_listed after c ≡ true
      → ((after.contracts.terms c).previous ≡ (after.results.settled c).rate)
      × ((after.contracts.terms c).margin ≡ (b.contracts.terms c).margin)
  -- the desk's lines
  pub lines : (n c : ℕ) → is_listed b c ≡ true
      → variation_in b final n c
      ≡ sum_over (amount_of n (after.results.settled c).rate)
      (lines_of n c (todays_trades l) (lots_of (deals_of n c (closed_trades l))) (b.contracts.terms c).previous)
  pub two-lines : (rate : ℤ)
      → All (λ d. amount_of d.deal.buyer rate (made_today d.deal) +ℤ amount_of d.deal.seller rate (made_today d.deal) ≡ pos 0) (todays_trades l)

-- ---- after any list of calls, the latest first
pub record Promises (h : List Entry) : Type 0 where
  -- 1. "the variation booked to an account in a contract is what its accepted trades of closed days earn, trade by trade, at the latest
  -- settlement rate"
  pub trade-by-trade : (n c : ℕ) → booked n c (log h) ≡ sum_over (worth_at (latest c (log h))) (deals_of n c (closed_trades (log h)))
  -- "Buyer's net up, seller's down": a listed contract's net is that of all accepted trades, an unlisted one's is zero
  pub nets : (n c : ℕ) → ((run h).accounts.position n c).net ≡ cond (is_listed (run h) c) (lots_of (deals_of n c (trades (log h)))) (pos 0)
  -- 2. "per contract, lots and variation sum to zero over accounts"
  pub lots-cancel : (c : ℕ) → sum_over (λ n. ((run h).accounts.position n c).net) (run h).accounts.members ≡ pos 0
  pub variation-cancels : (c : ℕ) → sum_over (λ n. booked n c (log h)) (run h).accounts.members ≡ pos 0
  -- 3. "all cash, house included, equals paid in less paid out, margin counted as cash"
  pub money-stays :
      sum_over (λ n. ((run h).accounts.funds n).cash +ℤ ((run h).accounts.funds n).margin) (run h).accounts.members +ℤ (run h).house
      ≡ paid_in (log h) -ℤ paid_out (log h)
  -- "the house account equals the variation not yet paid"
  pub house-owes : (run h).house ≡ sum_over (λ n. ((run h).accounts.funds n).due) (run h).accounts.members
  pub house-unpaid : (run h).house ≡ sum_over (λ n. booked_to n (log h) -ℤ moved_to n (log h)) (run h).accounts.members
  pub all-contracts : (n : ℕ) → booked_to n (log h) ≡ sum_z (tab (λ c. booked n c (log h)) 10000)
  -- 4. "no accepted trade lifts a total above both its limit and the total before"
  pub deals : (e : Entry) (t : Trade) → refusal (run h) e ≡ 0 → call_of e ≡ trade t
      → TradeKept (run h) (called (run h) e) (answer (run h) e) t
  -- 5 and 8. rates, rules, counts, variation and its lines
  pub closes : (e : Entry) (final : ℤ) → refusal (run h) e ≡ 0 → call_of e ≡ close final
      → CloseKept (run h) (called (run h) e) (answer (run h) e) (log h) final
  -- 6. "A refusal returns its number .. and changes nothing."
  pub refusals : (e : Entry) (k : ℕ) → refusal (run h) e ≡ suc k → RefusedKept (run h) (called (run h) e) (answer (run h) e) (suc k)
  pub without-refused : (run (accepted_of h) ≡ run h) × (log (accepted_of h) ≡ log h)
  -- 7. "These ceilings let every sum fit signed 64 bits over the calendar's life"
  pub bounds : Bounded (run h)
  pub fits : SumsFit
  -- 19 to 21 tell which day is wrong, and are given to opens only; "4 is no longer given"
  pub days-told : (e : Entry) (o : Opening) → call_of e ≡ opening o → DayTold (run h) o.day (refusal (run h) e)
  pub opens-only : (e : Entry) → 19 ≤ refusal (run h) e → refusal (run h) e ≤ 21 → (o : Opening) × (call_of e ≡ opening o)
  pub never-four : (e : Entry) → refusal (run h) e ≡ 4 → ⊥
  -- "Opening removes and lists accordingly"; a code that has ended is never listed again
  pub opens : (e : Entry) (o : Opening) → refusal (run h) e ≡ 0 → call_of e ≡ opening o → OpenKept (run h) (called (run h) e) o
  pub ended-for-good : (c : ℕ) → has_ended c (log h) ≡ true → is_listed (run h) c ≡ false
