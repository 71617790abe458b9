-- The book: what document 01 says that it keeps, by account number and by four-digit code. What is not enrolled or not
-- listed reads as zero, so that one state has one form.
use Rattle.std.specs.Prelude.{Bool, cond, List, [], map, ℕ, eqb, ℤ, pos}
use Rattle.lists.specs.Has.{has}
use Rattle.days.specs.Days.{is_working}
use Rattle.tallies.specs.Tally.{tally_of}
use Rattle.tallies.specs.declared.Tally.{Tally}
use Rattle.rates.specs.declared.Rule.TheVariants.{Previous}
use Rattle.rates.specs.declared.Settled.{Settled}
use Rattle.positions.specs.Deals.{flat}
use Rattle.positions.specs.declared.Position.{Position}
use Rattle.holdings.specs.declared.Limits.{Limits}
use Rattle.holdings.specs.declared.Holdings.{Holdings}
use Rattle.funds.specs.Funds.{new_funds}
use Rattle.funds.specs.declared.Funds.{Funds}
use Rattle.accounts.specs.declared.Account.{Account}

-- ---- from the start record
-- Event records: "0 start | reference rate, multiplier, number of exceptions, the exceptions".
pub record Settings : Type 0 where
  pub reference : ℕ
  pub multiplier : ℕ
  pub exceptions : List ℕ

abbrev pub no_settings : Settings
no_settings = record { reference = 0; multiplier = 0; exceptions = [] }

-- ---- the day
-- The day: "Kind 0 comes once, before all else." "Calls 7 and 12 alternate." "Settle: open, once a day."
pub data Point : Type 0 where
  unstarted : Point
  unopened : Point
  unsettled : Point
  settled_today : Point
  ended : Point

-- `day` is the day that is open or was closed last; `clock` is the "time .. of the day's last accepted trade or quote"
-- (refusal 9); `trades` counts "trades in a day" (refusal 16).
pub record Today : Type 0 where
  pub point : Point
  pub day : ℕ
  pub clock : ℕ
  pub trades : ℕ

-- ---- contracts, by code
-- "The new contract's list rate serves as its previous settlement rate; its margin rate is fixed for its life."
pub record Terms : Type 0 where
  pub previous : ℤ
  pub margin : ℕ

abbrev pub no_terms : Terms
no_terms = record { previous = pos 0; margin = 0 }

abbrev pub no_tally : Tally
no_tally = tally_of [] []

-- `codes` are the listed ones, rising; `tally` is what settlement needs of the code's day so far.
pub record Contracts : Type 0 where
  pub codes : List ℕ
  pub terms : ℕ → Terms
  pub tally : ℕ → Tally

-- What the last close answered for each code that was listed then: rate, rule and count.
pub record Results : Type 0 where
  pub codes : List ℕ
  pub settled : ℕ → Settled

abbrev pub no_settled : Settled
no_settled = record { rate = pos 0; rule = Previous; used = 0 }

-- ---- accounts, by number
-- what an account holds besides its positions
pub record Held : Type 0 where
  pub limits : Limits
  pub coming : Limits
  pub core : ℤ
  pub special : ℤ
  pub dayend : ℤ
  pub variation : ℤ

abbrev pub no_limits : Limits
no_limits = record { clearing = 0; tolerance = pos 0 }

abbrev pub no_held : Held
no_held = record { limits = no_limits; coming = no_limits; core = pos 0; special = pos 0; dayend = pos 0; variation = pos 0 }

-- `members` are the account numbers in the order in which they enrolled; a position is by account number and code.
pub record Accounts : Type 0 where
  pub members : List ℕ
  pub held : ℕ → Held
  pub funds : ℕ → Funds
  pub position : ℕ → ℕ → Position

-- ---- the book
pub record Book : Type 0 where
  pub settings : Settings
  pub today : Today
  pub contracts : Contracts
  pub results : Results
  pub accounts : Accounts
  pub house : ℤ

unfoldable pub new : Book
new = record {
  settings = no_settings;
  today = record { point = unstarted; day = 0; clock = 0; trades = 0 };
  contracts = record { codes = []; terms = λ c. no_terms; tally = λ c. no_tally };
  results = record { codes = []; settled = λ c. no_settled };
  accounts = record { members = []; held = λ n. no_held; funds = λ n. new_funds; position = λ n c. flat };
  house = pos 0;
}

-- ---- what is read off a book
abbrev pub is_member : Book → ℕ → Bool
is_member b n = has n b.accounts.members

abbrev pub is_listed : Book → ℕ → Bool
is_listed b c = has c b.contracts.codes

-- "Saturdays and Sundays are off, other days working .. each [exception] flips its day"
abbrev pub working : Book → ℕ → Bool
working b = is_working b.settings.exceptions

-- an account as `accounts` defines one: its positions are those in the listed codes, by rising code
abbrev pub holding : Held → List Position → Holdings
holding h positions = record {
  limits = h.limits;
  coming = h.coming;
  core = h.core;
  special = h.special;
  dayend = h.dayend;
  variation = h.variation;
  positions = positions;
}

abbrev pub besides : Holdings → Held
besides h = record {
  limits = h.limits;
  coming = h.coming;
  core = h.core;
  special = h.special;
  dayend = h.dayend;
  variation = h.variation;
}

abbrev pub positions_of : Book → ℕ → List Position
positions_of b n = map (b.accounts.position n) b.contracts.codes

abbrev pub holdings_of : Book → ℕ → Holdings
holdings_of b n = holding (b.accounts.held n) (positions_of b n)

abbrev pub account_of : Book → ℕ → Account
account_of b n = record { number = n; holdings = holdings_of b n; funds = b.accounts.funds n }

-- the listed codes' margin rates, in the same order
abbrev pub margins_of : Book → List ℕ
margins_of b = map (λ c. (b.contracts.terms c).margin) b.contracts.codes

-- ---- one key changed, the others as they were
abbrev pub replaced : {A : Type 0} → (ℕ → A) → ℕ → A → ℕ → A
replaced f key a n = cond (eqb n key) a (f n)
