-- A book written as tables, and calls made on it one after the other, so that the prover can compute many of them.
use Rattle.std.specs.Prelude.{Bool, List, [], ◌∷◌, ◌++◌, map, ℕ, zero, suc, ℤ, pos}
use Rattle.lists.specs.Look.{look}
use Rattle.records.specs.Records.{Entry}
use Rattle.tallies.specs.declared.Weighted.{Weighted}
use Rattle.tallies.specs.declared.Mean.{Mean}
use Rattle.tallies.specs.declared.Tally.{Tally}
use Rattle.rates.specs.declared.Rule.{Rule}
use Rattle.rates.specs.declared.Settled.{Settled}
use Rattle.positions.specs.Deals.{flat}
use Rattle.positions.specs.declared.Position.{Position}
use Rattle.funds.specs.Funds.{new_funds}
use Rattle.funds.specs.declared.Funds.{Funds}
use Rattle.model.specs.Book.{Book, Settings, Point, Today, Terms, no_terms, no_tally, no_settled, Held, no_held}
use Rattle.model.specs.Calls.{call_of}
use Rattle.model.specs.Effects.{after}
use Rattle.model.specs.Refusals.{refusal}
use Rattle.model.specs.Answers.{answer}
use Rattle.model.specs.Examples.{Line, lines_of}

-- ---- tables
-- by code: terms and tallies, and each account's positions; by settled code: what the last close answered; by member: the rest
pub record Table : Type 0 where
  pub settings : Settings
  pub today : Today
  pub codes : List ℕ
  pub terms : List Terms
  pub tallies : List Tally
  pub settled_codes : List ℕ
  pub settled : List Settled
  pub members : List ℕ
  pub held : List Held
  pub funds : List Funds
  pub positions : List (List Position)
  pub house : ℤ

abbrev pub book : Table → Book
book t = record {
  settings = t.settings;
  today = t.today;
  contracts = record { codes = t.codes; terms = look t.codes t.terms no_terms; tally = look t.codes t.tallies no_tally };
  results = record { codes = t.settled_codes; settled = look t.settled_codes t.settled no_settled };
  accounts = record {
    members = t.members;
    held = look t.members t.held no_held;
    funds = look t.members t.funds new_funds;
    position = λ n c. look t.codes (look t.members t.positions [] n) flat c;
  };
  house = t.house;
}

abbrev pub tabled : Book → Table
tabled b = record {
  settings = b.settings;
  today = b.today;
  codes = b.contracts.codes;
  terms = map b.contracts.terms b.contracts.codes;
  tallies = map b.contracts.tally b.contracts.codes;
  settled_codes = b.results.codes;
  settled = map b.results.settled b.results.codes;
  members = b.accounts.members;
  held = map b.accounts.held b.accounts.members;
  funds = map b.accounts.funds b.accounts.members;
  positions = map (λ n. map (b.accounts.position n) b.contracts.codes) b.accounts.members;
  house = b.house;
}

-- ---- calls on a table, the earliest first: what they print, and the table after them
pub record Walk : Type 0 where
  pub lines : List Line
  pub table : Table

-- after one call, by its refusal
abbrev pub moved : ℕ → Table → Entry → Table
moved zero t e = tabled (after (book t) (call_of e))
moved (suc n) t e = t

abbrev printed_first : List Line → Walk → Walk
printed_first lines w = record { lines = lines ++ w.lines; table = w.table }

unfoldable pub walk : List Entry → Table → Walk
walk [] t = record { lines = []; table = t }
walk (e ∷ es) t = printed_first (lines_of e.kind (answer (book t) e)) (walk es (moved (refusal (book t) e) t e))

-- ---- what stands in tables, written short
abbrev pub a_settings : ℕ → ℕ → List ℕ → Settings
a_settings reference multiplier exceptions = record { reference = reference; multiplier = multiplier; exceptions = exceptions }

abbrev pub a_today : Point → ℕ → ℕ → ℕ → Today
a_today point day clock trades = record { point = point; day = day; clock = clock; trades = trades }

abbrev pub a_terms : ℤ → ℕ → Terms
a_terms previous margin = record { previous = previous; margin = margin }

abbrev pub a_mean : ℤ → ℕ → Mean
a_mean sum weight = record { sum = sum; weight = weight }

abbrev pub a_tally : ℕ → List Weighted → ℕ → Mean → Mean → Mean → Tally
a_tally trades latest late hour bids offers = record { trades = trades; latest = latest; late = late; hour = hour; quotes = bids ∷ offers ∷ [] }

abbrev pub a_settled : ℤ → Rule → ℕ → Settled
a_settled rate rule used = record { rate = rate; rule = rule; used = used }

abbrev pub a_held : ℕ → ℕ → ℕ → ℕ → ℤ → ℤ → ℤ → ℤ → Held
a_held clearing tolerance coming_clearing coming_tolerance core special dayend variation = record {
  limits = record { clearing = clearing; tolerance = pos tolerance };
  coming = record { clearing = coming_clearing; tolerance = pos coming_tolerance };
  core = core;
  special = special;
  dayend = dayend;
  variation = variation;
}

abbrev pub a_funds : ℤ → ℤ → ℤ → ℤ → ℤ → Bool → Funds
a_funds cash margin due requirement free flag = record { cash = cash; margin = margin; due = due; requirement = requirement; free = free; flag = flag }

abbrev pub a_position : ℤ → ℤ → ℤ → Position
a_position before net cost = record { before = before; net = net; cost = cost }
