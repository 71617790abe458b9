-- What a call answers, and the book after it.
use Rattle.std.specs.Prelude.{cond, List, [], ◌∷◌, ℕ, zero, suc, eqb, ℤ, Option, Some, None}
use Rattle.records.specs.Records.{Entry}
use Rattle.rates.specs.declared.Settled.{Settled}
use Rattle.holdings.specs.declared.Totals.{Totals}
use Rattle.model.specs.Book.{Book}
use Rattle.model.specs.Calls.{Call, start, enrol, pay_in, pay_out, release, set_special, set_limits, opening, trade, quote, settle, refresh, close, unknown, call_of}
use Rattle.model.specs.Effects.{after}
use Rattle.model.specs.Refusals.{expected, side_totals, refusal}

-- "A refusal returns its number .. and changes nothing."
abbrev pub kept : ℕ → Book → Call → Book
kept zero b c = after b c
kept (suc n) b c = b

unfoldable pub called : Book → Entry → Book
called b e = kept (refusal b e) b (call_of e)

-- ---- what an accepted call answers
-- A printed day: "`account`, account, day's variation, due, requirement, free"
pub record Bill : Type 0 where
  pub variation : ℤ
  pub due : ℤ
  pub requirement : ℤ
  pub free : ℤ

-- "An accepted close adds the day, then per contract by code `rate`, code, rate, rule, trades or counted quotes used ..; per
-- account by number `account`, ..; then `house` and its balance."
pub record Report : Type 0 where
  pub day : ℕ
  pub codes : List ℕ
  pub settled : ℕ → Settled
  pub members : List ℕ
  pub bill : ℕ → Bill
  pub house : ℤ

abbrev pub bill_in : Book → ℕ → Bill
bill_in b n = record {
  variation = (b.accounts.held n).variation;
  due = (b.accounts.funds n).due;
  requirement = (b.accounts.funds n).requirement;
  free = (b.accounts.funds n).free;
}

-- read off the book after the close
abbrev pub report_of : Book → Report
report_of b = record {
  day = b.today.day;
  codes = b.results.codes;
  settled = b.results.settled;
  members = b.accounts.members;
  bill = bill_in b;
  house = b.house;
}

-- "An accepted trade answers each side's total before and after and its limit": the buyer's, then the seller's. An open that is not the next working
-- day answers which day is.
pub data Answer : Type 0 where
  refused : ℕ → Answer
  not_next : ℕ → Answer
  done : Answer
  both_sides : Totals → Totals → Answer
  report : Report → Answer

abbrev pub accepts : Book → Call → Answer
accepts b (start s) = done
accepts b (enrol n l) = done
accepts b (pay_in n x) = done
accepts b (pay_out n x) = done
accepts b (release n x) = done
accepts b (set_special n x) = done
accepts b (set_limits n l) = done
accepts b (opening o) = done
accepts b (trade t) = both_sides (side_totals b t t.buyer) (side_totals b t t.seller)
accepts b (quote q) = done
accepts b settle = done
accepts b refresh = done
accepts b (close final) = report (report_of (after b (close final)))
accepts b unknown = done

-- ---- what a refused call answers: its number. Request L2: "20 returns the expected day"
abbrev pub expecting : Option ℕ → Answer
expecting (Some d) = not_next d
expecting None = refused 20

abbrev pub refusing : Book → ℕ → Answer
refusing b n = cond (eqb n 20) (expecting (expected b)) (refused n)

-- ---- what a call answers
abbrev pub answered : ℕ → Book → Call → Answer
answered zero b c = accepts b c
answered (suc n) b c = refusing b (suc n)

unfoldable pub answer : Book → Entry → Answer
answer b e = answered (refusal b e) b (call_of e)

-- ---- an answer in document 01's numbers: that of its refusal, 0 for none, and the values that the refusal returns besides
pub record Refusal : Type 0 where
  pub number : ℕ
  pub values : List ℕ

abbrev accepted : Refusal
accepted = record { number = 0; values = [] }

abbrev pub refusal_of : Answer → Refusal
refusal_of (refused n) = record { number = n; values = [] }
refusal_of (not_next d) = record { number = 20; values = d ∷ [] }
refusal_of done = accepted
refusal_of (both_sides buyer seller) = accepted
refusal_of (report r) = accepted
