-- A trade as one side of it sees it, and what an account keeps of a contract's day.
use Rattle.std.specs.Prelude.{List, map, ℕ, get_or, set, ℤ, pos, neg_ℤ, ◌+ℤ◌, ◌*ℤ◌}
use Rattle.whole.specs.Sums.{sum_z}
use Rattle.positions.specs.declared.Position.{Position}

-- ---- today's trades of one account in one contract
-- Document 01, The day: "Buyer's net up, seller's down." Close: "signed lots", "buyer positive".
pub record Deal : Type 0 where
  pub lots : ℤ
  pub rate : ℤ

abbrev pub bought : ℕ → ℤ → Deal
bought lots rate = record { lots = pos lots; rate = rate }

abbrev pub sold : ℕ → ℤ → Deal
sold lots rate = record { lots = neg_ℤ (pos lots); rate = rate }

-- ---- what is kept of them
-- the sum of signed lots
unfoldable pub lots_of : List Deal → ℤ
lots_of today = sum_z (map (λ d. d.lots) today)

-- the sum of signed lots times the traded rate
unfoldable pub cost_of : List Deal → ℤ
cost_of today = sum_z (map (λ d. d.lots *ℤ d.rate) today)

-- the position of an account that had the net `before` and has made today's deals
abbrev pub position_of : ℤ → List Deal → Position
position_of before today = record { before = before; net = before +ℤ lots_of today; cost = cost_of today }

-- a net that is carried into a day in which nothing is traded yet
abbrev pub overnight : ℤ → Position
overnight net = record { before = net; net = net; cost = pos 0 }

-- no position
abbrev pub flat : Position
flat = overnight (pos 0)

-- ---- one deal more
abbrev pub dealt : Position → ℤ → ℤ → Position
dealt p lots rate = record { before = p.before; net = p.net +ℤ lots; cost = p.cost +ℤ lots *ℤ rate }

-- in the contract of one row; the others stay
unfoldable pub with_deal : List Position → ℕ → ℤ → ℤ → List Position
with_deal ps row lots rate = set ps row (dealt (get_or ps row flat) lots rate)
