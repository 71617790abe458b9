-- A row of the book's memory: which numbers it is written as, and what such numbers mean.
use Rattle.std.specs.Prelude.{Bool, cond, List, [], ◌∷◌, ◌++◌, ℕ, ◌+◌, eqb, ℤ, pos, get_or}
use Rattle.lists.specs.Block.{block}
use Rattle.tallies.specs.Tally.{none}
use Rattle.tallies.specs.declared.Weighted.{Weighted}
use Rattle.tallies.specs.declared.Mean.{Mean}
use Rattle.tallies.specs.declared.Tally.{Tally}
use Rattle.positions.specs.Deals.{flat}
use Rattle.positions.specs.declared.Position.{Position}
use Rattle.holdings.specs.declared.Holdings.{Holdings}
use Rattle.funds.specs.declared.Funds.{Funds}
use Rattle.accounts.specs.declared.Account.{Account}
use Rattle.memory.specs.declared.header_row.Header.{Header}
use Rattle.memory.specs.declared.contract_rows.Contract.{Contract}
use Rattle.memory.specs.declared.outcome_rows.Outcome.{Outcome}

-- an amount of a row
abbrev amount_at : List ℤ → ℕ → ℤ
amount_at m k = get_or m k (pos 0)

-- ---- the header: the day so far, the settings, and how many rows of each table are in use
abbrev pub header_cells : Header → List ℕ
header_cells h =
    h.point ∷ h.day ∷ h.clock ∷ h.trades ∷ h.reference ∷ h.multiplier ∷ h.exceptions ∷ h.listed ∷ h.settled ∷ h.members ∷ []

abbrev pub header_of : List ℕ → Header
header_of c = record {
  point = get_or c 0 0;
  day = get_or c 1 0;
  clock = get_or c 2 0;
  trades = get_or c 3 0;
  reference = get_or c 4 0;
  multiplier = get_or c 5 0;
  exceptions = get_or c 6 0;
  listed = get_or c 7 0;
  settled = get_or c 8 0;
  members = get_or c 9 0;
}

-- ---- a contract: code, margin rate and previous settlement rate, and the tally of its day
abbrev pub weighted_of : List ℕ → List ℤ → ℕ → Weighted
weighted_of c m k = record { weight = get_or c (7 + k) 0; rate = amount_at m (4 + k) }

-- the last hour's trades, its bids, its offers
abbrev pub mean_of : List ℕ → List ℤ → ℕ → Mean
mean_of c m k = record { sum = amount_at m (1 + k); weight = get_or c (4 + k) 0 }

abbrev pub tally_of : List ℕ → List ℤ → Tally
tally_of c m = record {
  trades = get_or c 2 0;
  latest = weighted_of c m 0 ∷ weighted_of c m 1 ∷ weighted_of c m 2 ∷ weighted_of c m 3 ∷ weighted_of c m 4 ∷ [];
  late = get_or c 3 0;
  hour = mean_of c m 0;
  quotes = mean_of c m 1 ∷ mean_of c m 2 ∷ [];
}

abbrev pub contract_of : List ℕ → List ℤ → Contract
contract_of c m = record { code = get_or c 0 0; margin = get_or c 1 0; previous = amount_at m 0; tally = tally_of c m }

abbrev latest_in : Contract → ℕ → Weighted
latest_in x k = get_or x.tally.latest k none

abbrev pub no_mean : Mean
no_mean = record { sum = pos 0; weight = 0 }

abbrev side_in : Contract → ℕ → Mean
side_in x side = get_or x.tally.quotes side no_mean

abbrev pub contract_counts : Contract → List ℕ
contract_counts x =
    x.code ∷ x.margin ∷ x.tally.trades ∷ x.tally.late ∷ x.tally.hour.weight ∷
    (side_in x 0).weight ∷ (side_in x 1).weight ∷
    (latest_in x 0).weight ∷ (latest_in x 1).weight ∷ (latest_in x 2).weight ∷ (latest_in x 3).weight ∷ (latest_in x 4).weight ∷ []

abbrev pub contract_money : Contract → List ℤ
contract_money x =
    x.previous ∷ x.tally.hour.sum ∷ (side_in x 0).sum ∷ (side_in x 1).sum ∷
    (latest_in x 0).rate ∷ (latest_in x 1).rate ∷ (latest_in x 2).rate ∷ (latest_in x 3).rate ∷ (latest_in x 4).rate ∷ []

-- ---- an outcome: what the last close found for a code
abbrev pub outcome_of : List ℕ → List ℤ → Outcome
outcome_of c m = record { code = get_or c 0 0; rate = amount_at m 0; rule = get_or c 1 0; used = get_or c 2 0 }

abbrev pub outcome_counts : Outcome → List ℕ
outcome_counts x = x.code ∷ x.rule ∷ x.used ∷ []

abbrev pub outcome_money : Outcome → List ℤ
outcome_money x = x.rate ∷ []

-- ---- an account: its number, what it holds, what it has
abbrev pub flag_cell : Bool → ℕ
flag_cell flag = cond flag 1 0

abbrev pub position_of : List ℤ → ℕ → Position
position_of m k = record { before = amount_at m k; net = amount_at m (k + 1); cost = amount_at m (k + 2) }

abbrev pub positions_of : List ℤ → List Position
positions_of m =
    position_of m 11 ∷ position_of m 14 ∷ position_of m 17 ∷ position_of m 20 ∷ position_of m 23 ∷ position_of m 26 ∷ []

abbrev pub funds_of : List ℕ → List ℤ → Funds
funds_of c m = record {
  cash = amount_at m 6;
  margin = amount_at m 7;
  due = amount_at m 8;
  requirement = amount_at m 9;
  free = amount_at m 10;
  flag = eqb (get_or c 3 0) 1;
}

abbrev pub holdings_of : List ℕ → List ℤ → Holdings
holdings_of c m = record {
  limits = record { clearing = get_or c 1 0; tolerance = amount_at m 0 };
  coming = record { clearing = get_or c 2 0; tolerance = amount_at m 1 };
  core = amount_at m 2;
  special = amount_at m 3;
  dayend = amount_at m 4;
  variation = amount_at m 5;
  positions = positions_of m;
}

abbrev pub account_of : List ℕ → List ℤ → Account
account_of c m = record { number = get_or c 0 0; holdings = holdings_of c m; funds = funds_of c m }

abbrev pub account_counts : Account → List ℕ
account_counts a = a.number ∷ a.holdings.limits.clearing ∷ a.holdings.coming.clearing ∷ flag_cell a.funds.flag ∷ []

abbrev pub position_cells : Position → List ℤ
position_cells p = p.before ∷ p.net ∷ p.cost ∷ []

abbrev position_in : Holdings → ℕ → Position
position_in h k = get_or h.positions k flat

abbrev pub six_positions : Holdings → List Position
six_positions h = position_in h 0 ∷ position_in h 1 ∷ position_in h 2 ∷ position_in h 3 ∷ position_in h 4 ∷ position_in h 5 ∷ []

abbrev pub held_cells : Holdings → List ℤ
held_cells h = h.limits.tolerance ∷ h.coming.tolerance ∷ h.core ∷ h.special ∷ h.dayend ∷ h.variation ∷ []

abbrev pub funds_cells : Funds → List ℤ
funds_cells f = f.cash ∷ f.margin ∷ f.due ∷ f.requirement ∷ f.free ∷ []

abbrev pub account_money : Account → List ℤ
account_money a = held_cells a.holdings ++ (funds_cells a.funds ++ block position_cells (six_positions a.holdings))

-- ---- rows with nothing in them
abbrev pub blank_contract : Contract
blank_contract = contract_of [] []

abbrev pub blank_outcome : Outcome
blank_outcome = outcome_of [] []

abbrev pub blank_account : Account
blank_account = account_of [] []
