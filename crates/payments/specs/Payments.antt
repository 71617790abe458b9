-- The three ways of moving an account's money, and the memory after one of them.
use Rattle.std.specs.Prelude.{Bool, List, ℕ, eqb, ltb, ℤ, Result, Ok, Err}
use Rattle.funds.specs.Funds.{paid_in, paid_out, released}
use Rattle.funds.specs.declared.Funds.{Funds}
use Rattle.funds.specs.declared.PaymentError.{PaymentError}
use Rattle.accounts.specs.declared.Account.{Account}
use Rattle.memory.specs.Layout.{with_account_counts, with_account_money}
use Rattle.model.specs.Calls.{Call, pay_in, pay_out, release}
use Rattle.payments.specs.declared.Way.{Way}
use Rattle.payments.specs.declared.Way.TheVariants.{In, Out, Back}

-- ---- by the way
abbrev pub may_pay : Way → ℕ → Bool
may_pay In point = ltb 0 point
may_pay Out point = ltb 0 point
may_pay Back point = eqb point 3

abbrev pub paid_by : Way → Funds → ℤ → Result Funds PaymentError
paid_by In f x = paid_in f x
paid_by Out f x = paid_out f x
paid_by Back f x = released f x

abbrev pub pay_call : Way → ℕ → ℤ → Call
pay_call In n x = pay_in n x
pay_call Out n x = pay_out n x
pay_call Back n x = release n x

-- ---- an account with the money that a payment leaves it
abbrev pub with_funds : Account → Funds → Account
with_funds a f = record { number = a.number; holdings = a.holdings; funds = f }

abbrev pub counts_paid : List ℕ → ℕ → Account → Result Funds PaymentError → List ℕ
counts_paid counts i a (Ok f) = with_account_counts counts i (with_funds a f)
counts_paid counts i a (Err e) = counts

abbrev pub money_paid : List ℤ → ℕ → Account → Result Funds PaymentError → List ℤ
money_paid money i a (Ok f) = with_account_money money i (with_funds a f)
money_paid money i a (Err e) = money
