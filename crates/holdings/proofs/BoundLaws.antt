-- What an account holds keeps its bounds through all that is set or traded in it.
use Rattle.std.specs.Prelude.{◌≡◌, false, ℕ, ◌+◌, ◌*◌, ◌≤◌, ◌<◌, ℤ, get_or}
use Rattle.std.proofs.Common.{mul-le-mul, arith}
use Rattle.whole.specs.Within.{Within}
use Rattle.whole.specs.Amounts.{Amount, amount-within, amount-pos}
use Rattle.positions.specs.Deals.{flat}
use Rattle.positions.specs.Beyond.{is_beyond}
use Rattle.positions.specs.Bounds.{Nets}
use Rattle.positions.specs.BoundLaws.{none_kept, kept-wider, deal-nets, deal-kept}
use Rattle.holdings.specs.Holdings.{basis, new_holdings, with_limits, with_special, with_trade}
use Rattle.holdings.specs.Bounds.{Granted, GoodReference, Sound}
use Rattle.holdings.specs.declared.Limits.{Limits}
use Rattle.holdings.specs.declared.Holdings.{Holdings}

pub basis-amount : {l : Limits} {reference : ℕ} → Granted l → GoodReference reference → Amount 100000000000000 (basis l reference)
basis-amount {l} {reference} g r = amount-pos (l.clearing * reference) (mul-le-mul g.clearing r.most)

-- ---- kept
pub new-sound : {l : Limits} {reference : ℕ} → Granted l → GoodReference reference → Sound 0 (new_holdings l reference)
unfolding new_holdings
new-sound g r = record {
  limits = g;
  coming = g;
  core = basis-amount g r;
  special = amount-pos 0 (omega arith);
  dayend = amount-pos 0 (omega arith);
  variation = amount-within (amount-pos 0 (omega arith));
  positions = none_kept;
}

module _ {trades : ℕ} {h : Holdings} (s : Sound trades h) where
  pub sound-wider : {more : ℕ} → trades ≤ more → Sound more h
  sound-wider w = record {
    limits = s.limits;
    coming = s.coming;
    core = s.core;
    special = s.special;
    dayend = s.dayend;
    variation = s.variation;
    positions = kept-wider s.positions w;
  }

  pub limits-sound : {l : Limits} → Granted l → Sound trades (with_limits h l)
  unfolding with_limits
  limits-sound g = record {
    limits = s.limits;
    coming = g;
    core = s.core;
    special = s.special;
    dayend = s.dayend;
    variation = s.variation;
    positions = s.positions;
  }

  pub special-sound : {special : ℤ} → Amount 100000000000000 special → Sound trades (with_special h special)
  unfolding with_special
  special-sound a = record {
    limits = s.limits;
    coming = s.coming;
    core = s.core;
    special = a;
    dayend = s.dayend;
    variation = s.variation;
    positions = s.positions;
  }

  -- the nets after a trade, before they are tested
  pub trade-nets : {lots rate : ℤ} (row : ℕ) → Within 1000 lots → Within 100000 rate
      → Nets 21000 (with_trade h row lots rate).positions
  unfolding with_trade
  trade-nets row l r = deal-nets s.positions row l r

  -- a trade that is not refused 13
  pub trade-sound : {lots rate : ℤ} (row : ℕ) → row < 6 → Within 1000 lots → Within 100000 rate
      → is_beyond (get_or (with_trade h row lots rate).positions row flat) ≡ false
      → Sound (trades + 1) (with_trade h row lots rate)
  unfolding with_trade
  trade-sound row b l r e = record {
    limits = s.limits;
    coming = s.coming;
    core = s.core;
    special = s.special;
    dayend = s.dayend;
    variation = s.variation;
    positions = deal-kept s.positions row l r b e;
  }
