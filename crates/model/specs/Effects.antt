-- What each accepted call does to the book.
use Rattle.std.specs.Prelude.{Bool, not, cond, List, [], ◌∷◌, ◌++◌, map, ℕ, ◌+◌, eqb, ℤ, pos, neg_ℤ, ◌-ℤ◌, get_or}
use Rattle.lists.specs.Has.{has, place_of}
use Rattle.lists.specs.Those.{those}
use Rattle.whole.specs.Sums.{sum_z}
use Rattle.days.specs.Days.{is_on}
use Rattle.months.specs.Months.{last_trading_of}
use Rattle.calendar.specs.Listing.{listing}
use Rattle.tallies.specs.Means.{weighted}
use Rattle.tallies.specs.Tally.{with_trade, with_quote}
use Rattle.rates.specs.Settling.{settled_from}
use Rattle.rates.specs.declared.Settled.{Settled}
use Rattle.positions.specs.Deals.{flat, dealt}
use Rattle.booking.specs.Carried.{carried}
use Rattle.positions.specs.declared.Position.{Position}
use Rattle.positions.specs.declared.Mark.{Mark}
use Rattle.holdings.specs.Holdings.{new_holdings, with_limits, with_special}
use Rattle.holdings.specs.declared.Limits.{Limits}
use Rattle.closing.specs.declared.DayEnd.{DayEnd}
use Rattle.funds.specs.Funds as funds
use Rattle.funds.specs.declared.Funds.{Funds}
use Rattle.accounts.specs.Accounts.{closed, refreshed}
use Rattle.accounts.specs.declared.Account.{Account}
use Rattle.model.specs.Book.{Book, Settings, Point, unopened, unsettled, settled_today, ended, Today, Terms, no_terms, no_tally, Contracts, no_settled, Held, Accounts, is_member, is_listed, working, besides, holdings_of, account_of, margins_of, replaced}
use Rattle.model.specs.Calls.{Call, start, enrol, pay_in, pay_out, release, set_special, set_limits, opening, trade, quote, settle, refresh, close, unknown, Trade, Quote, Opening}

-- ---- parts of a book put in place of its own
abbrev with_settings : Book → Settings → Book
with_settings b s = record { settings = s; today = b.today; contracts = b.contracts; results = b.results; accounts = b.accounts; house = b.house }

abbrev pub with_day : Book → Today → Contracts → Book
with_day b t c = record { settings = b.settings; today = t; contracts = c; results = b.results; accounts = b.accounts; house = b.house }

abbrev pub with_accounts : Book → Accounts → Book
with_accounts b a = record { settings = b.settings; today = b.today; contracts = b.contracts; results = b.results; accounts = a; house = b.house }

abbrev pub with_held : Book → (ℕ → Held) → Book
with_held b held = with_accounts b (record { members = b.accounts.members; held = held; funds = b.accounts.funds; position = b.accounts.position })

abbrev pub with_funds : Book → (ℕ → Funds) → Book
with_funds b f = with_accounts b (record { members = b.accounts.members; held = b.accounts.held; funds = f; position = b.accounts.position })

abbrev pub with_positions : Book → (ℕ → ℕ → Position) → Book
with_positions b p = with_accounts b (record { members = b.accounts.members; held = b.accounts.held; funds = b.accounts.funds; position = p })

abbrev at_point : Book → Point → Today
at_point b point = record { point = point; day = b.today.day; clock = b.today.clock; trades = b.today.trades }

-- what is done for each account that is enrolled
abbrev pub for_members : {A : Type 0} → Book → (ℕ → A) → (ℕ → A) → ℕ → A
for_members b did was n = cond (is_member b n) (did n) (was n)

-- ---- start, enrol, payments, limits
abbrev pub started : Book → Settings → Book
started b s = with_day (with_settings b s) (at_point b unopened) b.contracts

-- Trade: "A new account has core = clearing limit times reference rate, its tolerance in force at once, and zero cash, ..".
abbrev pub enrolled : Book → ℕ → Limits → Book
enrolled b n l = with_accounts b (record {
  members = b.accounts.members ++ (n ∷ []);
  held = replaced b.accounts.held n (besides (new_holdings l b.settings.reference));
  funds = b.accounts.funds;
  position = b.accounts.position;
})

-- The day: "Pay in adds its amount to the named account's cash; pay out takes it from there." Release: "margin to cash".
abbrev pub paid : Book → ℕ → Funds → Book
paid b n f = with_funds b (replaced b.accounts.funds n f)

-- ---- open
-- "Opening removes and lists accordingly. The new contract's list rate serves as its previous settlement rate; its margin
-- rate is fixed for its life." The rates of the record are by rising code.
abbrev list_terms : List ℕ → Opening → ℕ → Terms
list_terms codes o c = record { previous = get_or o.rates (place_of c codes) (pos 0); margin = get_or o.margins (place_of c codes) 0 }

abbrev pub terms_after : Book → List ℕ → Opening → ℕ → Terms
terms_after b codes o c = cond (has c codes) (cond (is_listed b c) (b.contracts.terms c) (list_terms codes o c)) no_terms

abbrev pub codes_on : Book → ℕ → List ℕ
codes_on b day = (listing (working b) day).codes

abbrev pub opened_with : List ℕ → Book → Opening → Book
opened_with codes b o = with_positions (with_day b
    (record { point = unsettled; day = o.day; clock = 0; trades = 0 })
    (record { codes = codes; terms = terms_after b codes o; tally = λ c. no_tally }))
    (λ n c. cond (has c codes) (b.accounts.position n c) flat)

abbrev pub opened : Book → Opening → Book
opened b o = opened_with (codes_on b o.day) b o

-- ---- trade and quote
-- "Buyer's net up, seller's down."
abbrev pub lots_for : Trade → ℕ → ℤ
lots_for t n = cond (eqb n t.buyer) (pos t.lots) (cond (eqb n t.seller) (neg_ℤ (pos t.lots)) (pos 0))

abbrev pub traded : Book → Trade → Book
traded b t = with_positions (with_day b
    (record { point = b.today.point; day = b.today.day; clock = t.time; trades = b.today.trades + 1 })
    (record {
      codes = b.contracts.codes;
      terms = b.contracts.terms;
      tally = replaced b.contracts.tally t.code (with_trade (b.contracts.tally t.code) t.time (weighted t.lots t.rate));
    }))
    (λ n c. cond (eqb c t.code) (dealt (b.accounts.position n c) (lots_for t n) t.rate) (b.accounts.position n c))

-- "Quotes outside the last hour move the clock and count nowhere." A mean of quotes weighs each of them once.
abbrev pub quoted : Book → Quote → Book
quoted b q = with_day b
    (record { point = b.today.point; day = b.today.day; clock = q.time; trades = b.today.trades })
    (record {
      codes = b.contracts.codes;
      terms = b.contracts.terms;
      tally = replaced b.contracts.tally q.code (with_quote (b.contracts.tally q.code) q.time q.side (weighted 1 q.rate));
    })

-- ---- settle and refresh
-- "Settle, each account"; "due moves between house and margin".
abbrev pub paid_to : Book → ℕ → ℤ
paid_to b n = (funds.settled (b.accounts.funds n)).paid

abbrev pub settled_up : Book → Book
settled_up b = record {
  settings = b.settings;
  today = at_point b settled_today;
  contracts = b.contracts;
  results = b.results;
  accounts = record {
    members = b.accounts.members;
    held = b.accounts.held;
    funds = for_members b (λ n. (funds.settled (b.accounts.funds n)).funds) b.accounts.funds;
    position = b.accounts.position;
  };
  house = b.house -ℤ sum_z (map (paid_to b) b.accounts.members);
}

abbrev refreshed_all : Book → Book
refreshed_all b = with_held b (for_members b (λ n. besides (refreshed b.settings.reference (account_of b n)).holdings) b.accounts.held)

-- ---- close
-- "on the last trading day only"
abbrev pub is_ending : Book → ℕ → Bool
is_ending b c = is_on b.today.day (last_trading_of (working b) c)

-- "Settlement rate (1.5.2), over accepted trades of the contract that day"
abbrev pub settled_at : Book → ℤ → ℕ → Settled
settled_at b final c = settled_from (b.contracts.tally c) (b.contracts.terms c).previous (is_ending b c) final

abbrev pub mark_of : Book → ℤ → ℕ → Mark
mark_of b final c = record { previous = (b.contracts.terms c).previous; rate = (settled_at b final c).rate; ending = is_ending b c }

abbrev pub day_end_of : Book → ℤ → DayEnd
day_end_of b final = record {
  marks = map (mark_of b final) b.contracts.codes;
  margins = margins_of b;
  reference = b.settings.reference;
  multiplier = b.settings.multiplier;
}

abbrev pub closed_at : Book → ℤ → ℕ → Account
closed_at b final n = closed (day_end_of b final) (account_of b n)

-- an ended contract is listed no more
abbrev pub codes_left : Book → List ℕ
codes_left b = those (λ c. not (is_ending b c)) b.contracts.codes

abbrev pub terms_left : Book → ℤ → ℕ → Terms
terms_left b final c = cond (has c (codes_left b)) (record { previous = (settled_at b final c).rate; margin = (b.contracts.terms c).margin }) no_terms

-- "limits set since the last close come into force; rates; variation ..; an ending contract's positions become zero; then .."
abbrev pub closed_day : Book → ℤ → Book
closed_day b final = record {
  settings = b.settings;
  today = record { point = ended; day = b.today.day; clock = 0; trades = 0 };
  contracts = record { codes = codes_left b; terms = terms_left b final; tally = λ c. no_tally };
  results = record { codes = b.contracts.codes; settled = λ c. cond (is_listed b c) (settled_at b final c) no_settled };
  accounts = record {
    members = b.accounts.members;
    held = for_members b (λ n. besides (closed_at b final n).holdings) b.accounts.held;
    funds = for_members b (λ n. (closed_at b final n).funds) b.accounts.funds;
    position = λ n c. carried (b.accounts.position n c) (mark_of b final c);
  };
  house = b.house;
}

-- ---- all of them
unfoldable pub after : Book → Call → Book
after b (start s) = started b s
after b (enrol n l) = enrolled b n l
after b (pay_in n x) = paid b n (funds.after (b.accounts.funds n) (funds.paid_in (b.accounts.funds n) x))
after b (pay_out n x) = paid b n (funds.after (b.accounts.funds n) (funds.paid_out (b.accounts.funds n) x))
after b (release n x) = paid b n (funds.after (b.accounts.funds n) (funds.released (b.accounts.funds n) x))
after b (set_special n x) = with_held b (replaced b.accounts.held n (besides (with_special (holdings_of b n) x)))
after b (set_limits n l) = with_held b (replaced b.accounts.held n (besides (with_limits (holdings_of b n) l)))
after b (opening o) = opened b o
after b (trade t) = traded b t
after b (quote q) = quoted b q
after b settle = settled_up b
after b refresh = refreshed_all b
after b (close final) = closed_day b final
after b unknown = b
