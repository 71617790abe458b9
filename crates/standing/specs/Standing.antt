-- The one memory of a book, and the book that a memory stands for.
use Rattle.std.specs.Prelude.{List, [], map, ℕ, zero, suc, ℤ, length, take}
use Rattle.lists.specs.Padded.{padded}
use Rattle.lists.specs.Look.{look}
use Rattle.rates.specs.Rules.{number_of}
use Rattle.rates.specs.declared.Rule.{Rule}
use Rattle.rates.specs.declared.Rule.TheVariants.{LastHour, LastFive, Quotes, Previous, Final}
use Rattle.rates.specs.declared.Settled.{Settled}
use Rattle.positions.specs.Deals.{flat}
use Rattle.funds.specs.Funds.{new_funds}
use Rattle.accounts.specs.declared.Account.{Account}
use Rattle.memory.specs.declared.header_row.Header.{Header}
use Rattle.memory.specs.declared.contract_rows.Contract.{Contract}
use Rattle.memory.specs.declared.outcome_rows.Outcome.{Outcome}
use Rattle.memory.specs.Rows.{blank_contract, blank_outcome, blank_account}
use Rattle.memory.specs.Memory.{Rows, rows_in}
use Rattle.model.specs.Book.{Book, Point, unstarted, unopened, unsettled, settled_today, ended, Terms, no_terms, no_tally, no_settled, no_held, holding, besides, positions_of}
use Rattle.model.specs.Refusals.{stage}

-- ---- a book's rows: those in use first, in the book's order, then blank ones
abbrev pub header_row : Book → Header
header_row b = record {
  point = stage b.today.point;
  day = b.today.day;
  clock = b.today.clock;
  trades = b.today.trades;
  reference = b.settings.reference;
  multiplier = b.settings.multiplier;
  exceptions = length b.settings.exceptions;
  listed = length b.contracts.codes;
  settled = length b.results.codes;
  members = length b.accounts.members;
}

abbrev pub contract_row : Book → ℕ → Contract
contract_row b c = record {
  code = c;
  margin = (b.contracts.terms c).margin;
  previous = (b.contracts.terms c).previous;
  tally = b.contracts.tally c;
}

abbrev pub outcome_row : Book → ℕ → Outcome
outcome_row b c = record {
  code = c;
  rate = (b.results.settled c).rate;
  rule = number_of (b.results.settled c).rule;
  used = (b.results.settled c).used;
}

-- an account's positions stand in the contracts' order, and there is none in a row that no contract has
abbrev pub account_row : Book → ℕ → Account
account_row b n = record {
  number = n;
  holdings = holding (b.accounts.held n) (padded 6 flat (positions_of b n));
  funds = b.accounts.funds n;
}

abbrev pub rows_of : Book → Rows
rows_of b = record {
  header = header_row b;
  exceptions = padded 400 0 b.settings.exceptions;
  contracts = padded 6 blank_contract (map (contract_row b) b.contracts.codes);
  outcomes = padded 6 blank_outcome (map (outcome_row b) b.results.codes);
  accounts = padded 64 blank_account (map (account_row b) b.accounts.members);
  house = b.house;
}

-- ---- what the rows in use say
abbrev pub point_of : ℕ → Point
point_of zero = unstarted
point_of (suc zero) = unopened
point_of (suc (suc zero)) = unsettled
point_of (suc (suc (suc zero))) = settled_today
point_of (suc (suc (suc (suc n)))) = ended

abbrev pub rule_of : ℕ → Rule
rule_of zero = Previous
rule_of (suc zero) = LastHour
rule_of (suc (suc zero)) = LastFive
rule_of (suc (suc (suc zero))) = Quotes
rule_of (suc (suc (suc (suc zero)))) = Previous
rule_of (suc (suc (suc (suc (suc n))))) = Final

abbrev pub terms_of : Contract → Terms
terms_of x = record { previous = x.previous; margin = x.margin }

abbrev pub settled_of : Outcome → Settled
settled_of x = record { rate = x.rate; rule = rule_of x.rule; used = x.used }

-- the codes, the settled codes and the members of some rows
module _ (r : Rows) where
  abbrev listed_rows : List Contract
  listed_rows = take r.header.listed r.contracts

  abbrev settled_rows : List Outcome
  settled_rows = take r.header.settled r.outcomes

  abbrev member_rows : List Account
  member_rows = take r.header.members r.accounts

  abbrev codes : List ℕ
  codes = map (λ x. x.code) listed_rows

  abbrev settled_codes : List ℕ
  settled_codes = map (λ x. x.code) settled_rows

  abbrev members : List ℕ
  members = map (λ a. a.number) member_rows

  abbrev pub book_of : Book
  book_of = record {
    settings = record {
      reference = r.header.reference;
      multiplier = r.header.multiplier;
      exceptions = take r.header.exceptions r.exceptions;
    };
    today = record {
      point = point_of r.header.point;
      day = r.header.day;
      clock = r.header.clock;
      trades = r.header.trades;
    };
    contracts = record {
      codes = codes;
      terms = look codes (map terms_of listed_rows) no_terms;
      tally = look codes (map (λ x. x.tally) listed_rows) no_tally;
    };
    results = record { codes = settled_codes; settled = look settled_codes (map settled_of settled_rows) no_settled };
    accounts = record {
      members = members;
      held = look members (map (λ a. besides a.holdings) member_rows) no_held;
      funds = look members (map (λ a. a.funds) member_rows) new_funds;
      position = λ n c. look codes (look members (map (λ a. a.holdings.positions) member_rows) [] n) flat c;
    };
    house = r.house;
  }

-- ---- the book of a memory
unfoldable pub view : List ℕ → List ℤ → Book
view counts money = book_of (rows_in counts money)
