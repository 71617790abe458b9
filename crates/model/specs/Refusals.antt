-- What a call is refused for: document 01, 'Refusal numbers', "First that applies".
use Rattle.std.specs.Prelude.{Bool, false, not, cond, ◌&&◌, ◌||◌, List, [], ◌∷◌, ℕ, zero, suc, ◌+◌, eqb, leb, ltb, length, Option}
use Rattle.days.specs.Days.{accepted, next_working, is_on, is_working}
use Rattle.calendar.specs.Listing.{listing}
use Rattle.ranges.specs.Ranges as ranges
use Rattle.records.specs.Records.{Entry}
use Rattle.tallies.specs.Day.{clock, in_last_hour}
use Rattle.tallies.specs.Tally.{side_in}
use Rattle.positions.specs.Beyond.{is_beyond}
use Rattle.holdings.specs.Limits.{totals_of, is_over}
use Rattle.holdings.specs.declared.Totals.{Totals}
use Rattle.funds.specs.Funds as funds
use Rattle.model.specs.Book.{Book, Point, unstarted, unopened, unsettled, settled_today, ended, is_member, is_listed, working, holdings_of, margins_of}
use Rattle.model.specs.Calls.{Call, start, enrol, pay_in, pay_out, release, set_special, set_limits, opening, trade, quote, settle, refresh, close, unknown, Trade, Quote, call_of}
use Rattle.model.specs.Effects.{traded}

-- ---- tests. Each asks for a refusal, 0 where it passes
abbrev pub needs : Bool → ℕ → ℕ
needs passed number = cond passed 0 number

unfoldable pub first_of : List ℕ → ℕ
first_of [] = 0
first_of (zero ∷ rest) = first_of rest
first_of (suc n ∷ rest) = suc n

-- ---- 3, "call not allowed at this point of the day"
abbrev pub stage : Point → ℕ
stage unstarted = 0
stage unopened = 1
stage unsettled = 2
stage settled_today = 3
stage ended = 4

-- "Kind 0 comes once, before all else." "The rest: any time after it."
abbrev pub is_started : Point → Bool
is_started p = ltb 0 (stage p)

-- "Calls 7 and 12 alternate."
abbrev pub is_shut : Point → Bool
is_shut p = eqb (stage p) 1 || eqb (stage p) 4

-- "Trades and quotes: open."
abbrev pub is_open : Point → Bool
is_open p = eqb (stage p) 2 || eqb (stage p) 3

-- "Settle: open, once a day." "Refresh, release and close: open and settled that day."
abbrev pub is_settled : Point → Bool
is_settled p = eqb (stage p) 3

abbrev pub allowed : Point → Call → Bool
allowed p (start s) = not (is_started p)
allowed p (enrol n l) = is_started p
allowed p (pay_in n x) = is_started p
allowed p (pay_out n x) = is_started p
allowed p (release n x) = is_settled p
allowed p (set_special n x) = is_started p
allowed p (set_limits n l) = is_started p
allowed p (opening o) = is_shut p
allowed p (trade t) = is_open p
allowed p (quote q) = is_open p
allowed p settle = is_open p && not (is_settled p)
allowed p refresh = is_settled p
allowed p (close final) = is_settled p
allowed p unknown = false

-- ---- 20 and 10
-- "First open: any working day; later ones: the next working day after the one closed."
abbrev pub is_first : Point → Bool
is_first p = eqb (stage p) 1

abbrev pub expected : Book → Option ℕ
expected b = next_working (working b) (b.today.day + 1)

abbrev pub is_next : Book → ℕ → Bool
is_next b day = is_first b.today.point || is_on day (expected b)

-- "Hours are 9:00:00 to 12:00:00 and 13:30:00 to 16:30:00, first seconds included, last ones .. not."
abbrev pub in_hours : ℕ → Bool
in_hours time =
    (leb (clock 9 0) time && ltb time (clock 12 0)) || (leb (clock 13 30) time && ltb time (clock 16 30))

-- ---- 13 and 14
-- "each side's total before and after and its limit", where the book after the trade has its positions
abbrev pub side_totals : Book → Trade → ℕ → Totals
side_totals b t n = totals_of (margins_of b) (holdings_of b n) (holdings_of (traded b t) n)

abbrev goes_beyond : Book → Trade → ℕ → Bool
goes_beyond b t n = is_beyond ((traded b t).accounts.position n t.code)

-- ---- 16: "last-hour quotes, contract and side, in a day | 0 | 10,000"
abbrev has_quote_room : Book → Quote → Bool
has_quote_room b q = not (in_last_hour q.time) || ltb (side_in (b.contracts.tally q.code) q.side).weight 10000

-- ---- in document 01's order: "1, 2, 3; then for a trade 8, 5, 11, 10, 9, 16, 12, 13, 14; for a quote 8, 10, 9, 16;
-- otherwise rising number". 1 belongs to bytes. Request L2: "4 is no longer given; 19, 20, 21 take its place in the order", "tested in that order:
-- a day off, not the next working day, a listed month without a settlement day in the calendar".
abbrev later : Book → Call → List ℕ
later b (start s) = needs (accepted (is_working s.exceptions)) 18 ∷ []
later b (enrol n l) = needs (not (is_member b n)) 6 ∷ needs (ltb (length b.accounts.members) 64) 7 ∷ []
later b (pay_in n x) = needs (is_member b n) 5 ∷ funds.refusal_of (funds.paid_in (b.accounts.funds n) x) ∷ []
later b (pay_out n x) = needs (is_member b n) 5 ∷ funds.refusal_of (funds.paid_out (b.accounts.funds n) x) ∷ []
later b (release n x) = needs (is_member b n) 5 ∷ funds.refusal_of (funds.released (b.accounts.funds n) x) ∷ []
later b (set_special n x) = needs (is_member b n) 5 ∷ []
later b (set_limits n l) = needs (is_member b n) 5 ∷ []
later b (opening o) =
    needs (working b o.day) 19 ∷
    needs (is_next b o.day) 20 ∷
    needs (listing (working b) o.day).known 21 ∷ []
later b (trade t) =
    needs (is_listed b t.code) 8 ∷
    needs (is_member b t.buyer) 5 ∷
    needs (is_member b t.seller) 5 ∷
    needs (not (eqb t.buyer t.seller)) 11 ∷
    needs (in_hours t.time) 10 ∷
    needs (leb b.today.clock t.time) 9 ∷
    needs (ltb b.today.trades 10000) 16 ∷
    needs (not (b.accounts.funds t.buyer).flag) 12 ∷
    needs (not (b.accounts.funds t.seller).flag) 12 ∷
    needs (not (goes_beyond b t t.buyer)) 13 ∷
    needs (not (goes_beyond b t t.seller)) 13 ∷
    needs (not (is_over (side_totals b t t.buyer))) 14 ∷
    needs (not (is_over (side_totals b t t.seller))) 14 ∷ []
later b (quote q) =
    needs (is_listed b q.code) 8 ∷
    needs (in_hours q.time) 10 ∷
    needs (leb b.today.clock q.time) 9 ∷
    needs (has_quote_room b q) 16 ∷ []
later b settle = []
later b refresh = []
later b (close final) = []
later b unknown = []

-- "2 | field out of range, or exceptions not rising"
abbrev pub ranged : Entry → ℕ
ranged e = ranges.refusal_of (ranges.checked e.kind e.fields e.exceptions)

abbrev pub tests : Book → Call → List ℕ
tests b c = needs (allowed b.today.point c) 3 ∷ later b c

unfoldable pub refusal : Book → Entry → ℕ
refusal b e = first_of (ranged e ∷ tests b (call_of e))
