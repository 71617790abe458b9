-- What accounts hold besides their positions keeps its bounds, and what a close makes of each account is within them.
use Rattle.std.specs.Prelude.{◌≡◌, List, ℕ, ◌+◌, ◌≤◌, ℤ, pos, nat_abs, length, replicate}
use Rattle.std.proofs.Common.{◌∙◌, zero-le}
use native.Mathlib.Omega.{arith}
use Rattle.std.proofs.lemmas.List.{length-map}
use Rattle.lists.specs.Keep.{cond-keeps, map-keeps}
use Rattle.whole.specs.Within.{Within, wider, lit, nat_abs-+}
use Rattle.whole.specs.Amounts.{Amount, amount-pos}
use Rattle.positions.specs.Bounds as positions
use Rattle.positions.specs.BoundLaws.{none_kept}
use Rattle.booking.specs.BoundLaws.{variation-most}
use Rattle.positions.specs.Deals.{flat}
use Rattle.booking.specs.Variation.{variation}
use Rattle.positions.specs.declared.Position.{Position}
use Rattle.holdings.specs.Bounds.{Granted, GoodReference}
use Rattle.holdings.specs.Bounds as holdings
use Rattle.holdings.specs.Holdings.{new_holdings, with_limits, with_special}
use Rattle.holdings.proofs.BoundLaws.{new-sound, limits-sound, special-sound}
use Rattle.holdings.specs.declared.Limits.{Limits}
use Rattle.holdings.specs.declared.Holdings.{Holdings}
use Rattle.closing.specs.Bounds.{GoodDayEnd}
use Rattle.closing.specs.DayEnd.{at_close, with_core}
use Rattle.closing.proofs.BoundLaws.{core-sound, full-amount}
use Rattle.funds.specs.Funds.{billed}
use Rattle.accounts.specs.Accounts.{closed, refreshed}
use Rattle.accounts.specs.Bounds as accounts
use Rattle.accounts.specs.BoundLaws.{closed-sound}
use Rattle.accounts.specs.declared.Account.{Account}
use Rattle.model.specs.Book.{Book, Held, no_held, holding, besides, positions_of, holdings_of, account_of, margins_of}
use Rattle.model.specs.Effects.{day_end_of, closed_at}
use Rattle.model.specs.Bounds.{all_booked, Modest}
use Rattle.model.specs.NaturalLaws.{total_over, total-spread}
use Rattle.model.specs.TermLaws.{rate-fair}
use Rattle.model.specs.Kept.{days_of, Sized}

-- ---- with positions and without
pub none-modest : Modest no_held
none-modest = record {
  limits = record { clearing = zero-le; tolerance = amount-pos 0 zero-le };
  coming = record { clearing = zero-le; tolerance = amount-pos 0 zero-le };
  core = amount-pos 0 zero-le;
  special = amount-pos 0 zero-le;
  dayend = amount-pos 0 zero-le;
  variation = wider (lit (pos 0)) tt;
}

with-positions : {trades : ℕ} {h : Held} {ps : List Position} → Modest h → positions.Kept trades ps → holdings.Sound trades (holding h ps)
with-positions m k = record {
  limits = m.limits;
  coming = m.coming;
  core = m.core;
  special = m.special;
  dayend = m.dayend;
  variation = m.variation;
  positions = k;
}

without-positions : {trades : ℕ} {h : Holdings} → holdings.Sound trades h → Modest (besides h)
without-positions s = record {
  limits = s.limits;
  coming = s.coming;
  core = s.core;
  special = s.special;
  dayend = s.dayend;
  variation = s.variation;
}

-- ---- what is set. Positions do not matter to it
with_none : {h : Held} → Modest h → holdings.Sound 0 (holding h (replicate 6 flat))
with_none m = with-positions m none_kept

pub new-modest : {l : Limits} {reference : ℕ} → Granted l → reference ≤ 100000000 → Modest (besides (new_holdings l reference))
new-modest g r = without-positions (new-sound g (record { most = r }))

module _ {h : Held} (m : Modest h) (ps : List Position) where
  pub limits-modest : {l : Limits} → Granted l → Modest (besides (with_limits (holding h ps) l))
  unfolding with_limits
  limits-modest g = without-positions (limits-sound (with_none m) g)

  pub special-modest : {x : ℤ} → Amount 100000000000000 x → Modest (besides (with_special (holding h ps) x))
  unfolding with_special
  special-modest a = without-positions (special-sound (with_none m) a)

pub refreshed-modest : (b : Book) (n : ℕ) → Modest (b.accounts.held n) → b.settings.reference ≤ 100000000
    → Modest (besides (refreshed b.settings.reference (account_of b n)).holdings)
unfolding refreshed with_core
refreshed-modest b n m r =
    let reference : GoodReference b.settings.reference = record { most = r } in
    cond-keeps (λ (a : Account). Modest (besides a.holdings)) (b.accounts.funds n).flag _ _
    (λ e. m)
    (λ e. without-positions (core-sound (with_none m) (full-amount (with_none m) reference)))

-- ---- a close
-- what holds of each code holds at each place of the listed codes
module _ {b : Book} (s : Sized b) (six : length b.contracts.codes ≡ 6) where
  kept-positions : (n : ℕ) → positions.Kept b.today.trades (positions_of b n)
  kept-positions n = record {
    nets = record {
      six = length-map b.contracts.codes (b.accounts.position n) ∙ six;
      at = map-keeps (λ (p : Position). Within 20000 p.net) flat (b.accounts.position n) b.contracts.codes
          (wider (lit (pos 0)) tt)
          (s.dealt.nets n);
    };
    befores = map-keeps (λ (p : Position). Within 20000 p.before) flat (b.accounts.position n) b.contracts.codes
        (wider (lit (pos 0)) tt)
        (s.dealt.befores n);
    costs = s.dealt.own n;
  }

  pub holdings-sound : (n : ℕ) → holdings.Sound b.today.trades (holdings_of b n)
  holdings-sound n = with-positions (s.held n) (kept-positions n)

  pub open-sound : (n : ℕ) → accounts.Sound b.today.trades (days_of b.today) (account_of b n)
  open-sound n = record { holdings = holdings-sound n; funds = s.funded.sound n }

  pub margins-good : positions.Margins (margins_of b)
  margins-good = record {
    six = length-map b.contracts.codes _ ∙ six;
    at = map-keeps (λ m. m ≤ 100000000) 0 _ b.contracts.codes zero-le (λ c. (s.contracts.terms c).margin);
  }

  module _ (final : ℤ) (w : Within 100000 final) where
    pub good-end : GoodDayEnd (day_end_of b final)
    good-end = record {
      marks = record {
        six = length-map b.contracts.codes _ ∙ six;
        at = map-keeps positions.Priced positions.no_mark _ b.contracts.codes
            (record { previous = wider (lit (pos 0)) tt; rate = wider (lit (pos 0)) tt })
            (λ c. record {
              previous = (s.contracts.terms c).previous;
              rate = rate-fair b final s.contracts.terms s.contracts.tallies w c;
            });
      };
      margins = margins-good;
      reference = record { most = s.settings.reference };
      multiplier = s.settings.multiplier;
    }

    pub account-sound : (n : ℕ) → accounts.Sound 0 (days_of b.today + 1) (closed_at b final n)
    account-sound n = closed-sound {d = day_end_of b final} (open-sound n) s.today.trades good-end

    pub closed-modest : (n : ℕ) → Modest (besides (closed_at b final n).holdings)
    closed-modest n = without-positions (account-sound n).holdings

    -- what is due grows by at most what the account's day can book
    pub closed-due : (n : ℕ)
        → nat_abs (closed_at b final n).funds.due
        ≤ nat_abs (b.accounts.funds n).due + positions.day_most (positions.costs (positions_of b n))
    unfolding closed at_close billed
    closed-due n =
        omega (
          arith,
          nat_abs-+ (b.accounts.funds n).due (variation (positions_of b n) (day_end_of b final).marks),
          (variation-most (kept-positions n) good-end.marks).size,
        )

  pub booked-most : total_over (λ n. positions.day_most (positions.costs (positions_of b n))) b.accounts.members ≤ all_booked
  booked-most =
      omega (
        arith,
        total-spread 250 24000000000 (λ n. positions.costs (positions_of b n)) b.accounts.members,
        s.dealt.costs,
        s.members,
        s.today.trades,
      )
