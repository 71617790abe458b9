-- What an account has, and what closes, settlements and payments make of it.
use Rattle.std.specs.Prelude.{true, false, cond, ℕ, Result, Ok, Err, ℤ, pos, neg_ℤ, ◌+ℤ◌, ◌-ℤ◌}
use Rattle.std.specs.Int.Signed.{lt_z, le_z}
use Rattle.funds.specs.declared.Funds.{Funds}
use Rattle.funds.specs.declared.Settlement.{Settlement}
use Rattle.funds.specs.declared.PaymentError.{PaymentError}
use Rattle.funds.specs.declared.PaymentError.TheVariants.{InDefault, TooMuch, Full}
use Rattle.refusals.specs.Refusals.{number_of}
use Rattle.refusals.specs.declared.Refusal.{Refusal}
use Rattle.refusals.specs.declared.Refusal.TheVariants as refusals

-- Document 01, Trade: "A new account has .. zero cash, margin, due, requirement, free .. with the flag clear."
unfoldable pub new_funds : Funds
new_funds = record { cash = pos 0; margin = pos 0; due = pos 0; requirement = pos 0; free = pos 0; flag = false }

-- ---- close
-- Document 01, Close: "added to the account's due"; "free = margin + due - requirement".
unfoldable pub billed : Funds → ℤ → ℤ → Funds
billed f variation requirement = record {
  cash = f.cash;
  margin = f.margin;
  due = f.due +ℤ variation;
  requirement = requirement;
  free = (f.margin +ℤ (f.due +ℤ variation)) -ℤ requirement;
  flag = f.flag;
}

-- ---- settle
-- what moves is answered: `called` from cash to margin, `paid` from the house to margin (below zero, the other way)

-- Document 01, Settle: "need moves from cash to margin, due as above, flag cleared", where "as above" is "due moves between
-- house and margin".
unfoldable pub paid_up : Funds → ℤ → Settlement
paid_up f called = record {
  funds = record {
    cash = f.cash -ℤ called;
    margin = (f.margin +ℤ called) +ℤ f.due;
    due = pos 0;
    requirement = f.requirement;
    free = f.free;
    flag = false;
  };
  called = called;
  paid = f.due;
}

-- "nothing moves, due stays, flag set"
unfoldable pub in_default : Funds → Settlement
in_default f = record {
  funds = record {
    cash = f.cash;
    margin = f.margin;
    due = f.due;
    requirement = f.requirement;
    free = f.free;
    flag = true;
  };
  called = pos 0;
  paid = pos 0;
}

-- "free 0 or more: due moves between house and margin, default flag cleared. Else need = -free. Cash covers it: need moves .. .
-- Else nothing moves".
abbrev pub need : Funds → ℤ
need f = neg_ℤ f.free

unfoldable pub settled : Funds → Settlement
settled f =
    cond (le_z (pos 0) f.free) (paid_up f (pos 0))
    (cond (le_z (need f) f.cash) (paid_up f (need f))
    (in_default f))

-- ---- payments
-- what is left where money moves from margin to cash, or in and out
abbrev pub with_money : Funds → ℤ → ℤ → Funds
with_money f cash margin = record {
  cash = cash;
  margin = margin;
  due = f.due;
  requirement = f.requirement;
  free = f.free;
  flag = f.flag;
}

-- Document 01, The day: "Pay in adds its amount to the named account's cash". Refusal 17: "cash + margin would exceed 10^17".
abbrev pub cash_most : ℤ
cash_most = pos 100000000000000000

unfoldable pub paid_in : Funds → ℤ → Result Funds PaymentError
paid_in f amount =
    cond (lt_z cash_most ((f.cash +ℤ amount) +ℤ f.margin)) (Err Full)
    (Ok (with_money f (f.cash +ℤ amount) f.margin))

-- "pay out takes it from there". Refusal 12: "account in default (trade, release, pay out)". Refusal 15: "more than cash (pay
-- out) or than may be released".
unfoldable pub paid_out : Funds → ℤ → Result Funds PaymentError
paid_out f amount =
    cond f.flag (Err InDefault)
    (cond (lt_z f.cash amount) (Err TooMuch)
    (Ok (with_money f (f.cash -ℤ amount) f.margin)))

-- Document 01, Release: "margin to cash, at most margin - requirement".
unfoldable pub released : Funds → ℤ → Result Funds PaymentError
released f amount =
    cond f.flag (Err InDefault)
    (cond (lt_z (f.margin -ℤ f.requirement) amount) (Err TooMuch)
    (Ok (with_money f (f.cash +ℤ amount) (f.margin -ℤ amount))))

-- the refusal that an error stands for, its number, and the money after an answer
abbrev pub refusal_for : PaymentError → Refusal
refusal_for InDefault = refusals.InDefault
refusal_for TooMuch = refusals.TooMuch
refusal_for Full = refusals.PaysInTooMuch

abbrev pub refusal_of : Result Funds PaymentError → ℕ
refusal_of (Ok f) = 0
refusal_of (Err e) = number_of (refusal_for e)

abbrev pub after : Funds → Result Funds PaymentError → Funds
after f (Ok g) = g
after f (Err e) = f
