-- How large the book's numbers can be on its day, so that every sum fits 64 bits over the calendar's life.
use Rattle.std.specs.Prelude.{map, ℕ, ◌+◌, ◌*◌, ◌^◌, ◌≤◌, ◌<◌, ℤ, ◌-ℤ◌, length, take}
use Rattle.whole.specs.Within.{Within}
use Rattle.whole.specs.Sizes.{sizes}
use Rattle.whole.specs.Over.{sum_over}
use Rattle.whole.specs.Amounts.{Amount}
use Rattle.tallies.specs.Bounds as tallies
use Rattle.tallies.specs.Means.{total}
use Rattle.positions.specs.Bounds.{costs}
use Rattle.totals.specs.Totals as positions
use Rattle.holdings.specs.Limits.{limit_of}
use Rattle.holdings.specs.Bounds.{Granted}
use Rattle.funds.specs.Bounds as funds
use Rattle.model.specs.Book.{Book, Point, unstarted, unopened, unsettled, settled_today, ended, Held, Terms, positions_of, holdings_of, margins_of}
use Rattle.model.specs.Effects.{paid_to}

-- ---- the days that may have been closed: those before the one that is open, and that one once it is closed
abbrev pub closed_days : Point → ℕ → ℕ
closed_days unstarted day = 0
closed_days unopened day = 0
closed_days unsettled day = day
closed_days settled_today day = day
closed_days ended day = day + 1

-- ---- what a day can book over all accounts, sizes added: 250 times the cost of 10,000 trades for both sides of each, with 20,000 lots of
-- each of six contracts, for 64 accounts, at 100,000 now and before today
abbrev pub all_booked : ℕ
all_booked = 250 * (2 * 1000000000000 + 64 * 24000000000)

-- ---- parts
-- 'Units and ceilings': "clearing limit (lots) | 0 | 1,000,000", "tolerance, special margin | 0 | 10^14", "margin rate,
-- reference rate (fen a lot) | 1 | 100,000,000"
pub record Modest (h : Held) : Type 0 where
  pub limits : Granted h.limits
  pub coming : Granted h.coming
  pub core : Amount 100000000000000 h.core
  pub special : Amount 100000000000000 h.special
  pub dayend : Amount 12000000000000 h.dayend
  pub variation : Within funds.most_booked h.variation

-- "A rate is a signed whole number of 0.0001%, from -100,000 to 100,000."
pub record Fair (t : Terms) : Type 0 where
  pub previous : Within 100000 t.previous
  pub margin : t.margin ≤ 100000000

-- ---- sums over accounts and contracts
-- today's costs, and today's lots
abbrev pub costs_in : Book → ℕ
costs_in b = total (map (λ n. costs (positions_of b n)) b.accounts.members)

abbrev pub lots_in : Book → ℕ
lots_in b = total (map (λ n. sizes (map (λ p. p.net -ℤ p.before) (positions_of b n))) b.accounts.members)

abbrev pub dues_in : Book → ℕ
dues_in b = sizes (map (λ n. (b.accounts.funds n).due) b.accounts.members)

-- an account's total and limit
abbrev pub total_in : Book → ℕ → ℤ
total_in b n = positions.total (positions_of b n) (margins_of b)

abbrev pub limit_in : Book → ℕ → ℤ
limit_in b n = limit_of (holdings_of b n)

-- ---- the book's
pub record Bounded (b : Book) : Type 0 where
  pub days : closed_days b.today.point b.today.day ≤ funds.days_most
  pub trades : b.today.trades ≤ 10000
  pub accounts : length b.accounts.members ≤ 64
  pub reference : b.settings.reference ≤ 100000000
  pub multiplier : b.settings.multiplier ≤ 1000
  pub terms : (c : ℕ) → Fair (b.contracts.terms c)
  pub tallies : (c : ℕ) → tallies.Sound (b.contracts.tally c)
  pub held : (n : ℕ) → Modest (b.accounts.held n)
  pub funds : (n : ℕ) → funds.Sound (closed_days b.today.point b.today.day) (b.accounts.funds n)
  pub nets : (n c : ℕ) → Within 20000 (b.accounts.position n c).net
  pub befores : (n c : ℕ) → Within 20000 (b.accounts.position n c).before
  pub costs : costs_in b ≤ 2 * b.today.trades * 100000000
  pub lots : lots_in b ≤ 2 * b.today.trades * 1000
  pub totals : (n : ℕ) → Amount 12000000000000 (total_in b n)
  pub limits : (n : ℕ) → Amount 200000000000000 (limit_in b n)
  pub dues : dues_in b ≤ closed_days b.today.point b.today.day * all_booked
  pub house : Within (closed_days b.today.point b.today.day * all_booked) b.house
  -- the house while a settlement goes from account to account
  pub settling : (k : ℕ)
      → Within (closed_days b.today.point b.today.day * all_booked) (b.house -ℤ sum_over (paid_to b) (take k b.accounts.members))

-- ---- over the calendar's life
-- 'Units and ceilings': "These ceilings let every sum fit signed 64 bits over the calendar's life; show it."
pub record SumsFit : Type 0 where
  pub dues : funds.days_most * all_booked < 2 ^ 63
  pub money : 100000000000000000 + 2 * (funds.days_most * funds.most_booked) < 2 ^ 63
  pub free : funds.free_most funds.days_most < 2 ^ 63
  -- the sums of rule 1, and of rule 3 with its common divisor
  pub lot-weighted : 100000 * (1000 * 10000) < 2 ^ 63
  pub half-of-two : 100000 * (2 * (10000 * 10000)) < 2 ^ 63
