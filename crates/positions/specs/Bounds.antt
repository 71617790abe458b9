-- The sizes that document 01's ceilings give positions, so that every sum fits 64 bits. `trades` is the number of trades of
-- the day so far: a trade moves a cost by at most 1,000 lots times 100,000.
use Rattle.std.specs.Prelude.{◌≡◌, false, List, map, ℕ, ◌+◌, ◌*◌, ◌≤◌, length, get_or, pos}
use Rattle.whole.specs.Within.{Within}
use Rattle.whole.specs.Sizes.{sizes}
use Rattle.positions.specs.Deals.{flat}
use Rattle.positions.specs.declared.Position.{Position}
use Rattle.positions.specs.declared.Mark.{Mark}

-- ---- what contracts say
-- Document 01, Units and ceilings: "margin rate, reference rate (fen a lot) | 1 | 100,000,000".
pub record Margins (margins : List ℕ) : Type 0 where
  pub six : length margins ≡ 6
  pub at : (i : ℕ) → get_or margins i 0 ≤ 100000000

-- "A rate is a signed whole number of 0.0001%, from -100,000 to 100,000."
pub record Priced (m : Mark) : Type 0 where
  pub previous : Within 100000 m.previous
  pub rate : Within 100000 m.rate

abbrev pub no_mark : Mark
no_mark = record { previous = pos 0; rate = pos 0; ending = false }

pub record PricedAll (marks : List Mark) : Type 0 where
  pub six : length marks ≡ 6
  pub at : (i : ℕ) → Priced (get_or marks i no_mark)

-- ---- what an account keeps
-- nets of at most so many lots; one that is yet to be tested may be beyond 20,000 by the lots of one trade
pub record Nets (most : ℕ) (ps : List Position) : Type 0 where
  pub six : length ps ≡ 6
  pub at : (i : ℕ) → Within most (get_or ps i flat).net

-- the costs of all contracts together, whatever their signs
abbrev pub costs : List Position → ℕ
costs ps = sizes (map (λ p. p.cost) ps)

-- "net lots, account and contract | -20,000 | 20,000"
pub record Kept (trades : ℕ) (ps : List Position) : Type 0 where
  pub nets : Nets 20000 ps
  pub befores : (i : ℕ) → Within 20000 (get_or ps i flat).before
  pub costs : costs ps ≤ trades * 100000000

-- one position of a day of at most 10,000 trades
pub record Modest (p : Position) : Type 0 where
  pub before : Within 20000 p.before
  pub net : Within 20000 p.net
  pub cost : Within 1000000000000 p.cost

-- ---- what one account's day can book
-- 250 times what today's trades cost, with 20,000 lots of each of six contracts at 100,000, now and before today
abbrev pub day_most : ℕ → ℕ
day_most costs = 250 * (costs + 24000000000)
