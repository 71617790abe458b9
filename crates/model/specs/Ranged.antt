-- A call within the ceilings of document 01's 'Units and ceilings', for what the call holds: what the range check leaves.
use Rattle.std.specs.Prelude.{◌≡◌, true, List, ℕ, ◌≤◌, ◌<◌, length, get_or}
use Rattle.whole.specs.Within.{Within, Each}
use Rattle.whole.specs.Amounts.{Amount}
use Rattle.days.specs.Days.{rising}
use Rattle.holdings.specs.declared.Limits.{Limits}
use Rattle.holdings.specs.Bounds.{Granted}
use Rattle.model.specs.Book.{Settings}
use Rattle.model.specs.Calls.{Call, start, enrol, pay_in, pay_out, release, set_special, set_limits, opening, trade, quote, settle, refresh, close, unknown, Trade, Quote, Opening}

-- each of a list's numbers is at most B; past the end an element is 0
pub record EachMost (B : ℕ) (ns : List ℕ) : Type 0 where
  pub at : (i : ℕ) → get_or ns i 0 ≤ B

pub record GoodSettings (s : Settings) : Type 0 where
  pub reference : s.reference ≤ 100000000
  pub multiplier : s.multiplier ≤ 1000
  pub rises : rising s.exceptions ≡ true
  pub few : length s.exceptions ≤ 400

pub record GoodMember (n : ℕ) (l : Limits) : Type 0 where
  pub number : n ≤ 9999999
  pub limits : Granted l

pub record GoodOpening (o : Opening) : Type 0 where
  pub day : o.day ≤ 3652
  pub rates : Each 100000 o.rates
  pub margins : EachMost 100000000 o.margins

pub record GoodTrade (t : Trade) : Type 0 where
  pub least : 0 < t.lots
  pub most : t.lots ≤ 1000
  pub rate : Within 100000 t.rate

pub record GoodQuote (q : Quote) : Type 0 where
  pub side : q.side < 2
  pub rate : Within 100000 q.rate

abbrev pub Ranged : Call → Type 0
Ranged (start s) = GoodSettings s
Ranged (enrol n l) = GoodMember n l
Ranged (pay_in n x) = Amount 100000000000000 x
Ranged (pay_out n x) = Amount 100000000000000 x
Ranged (release n x) = Amount 100000000000000 x
Ranged (set_special n x) = Amount 100000000000000 x
Ranged (set_limits n l) = Granted l
Ranged (opening o) = GoodOpening o
Ranged (trade t) = GoodTrade t
Ranged (quote q) = GoodQuote q
Ranged settle = Unit {0}
Ranged refresh = Unit {0}
Ranged (close final) = Within 100000 final
Ranged unknown = ⊥
