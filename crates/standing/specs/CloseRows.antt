-- What a close makes of the rows of a memory, step by step.
use Rattle.std.specs.Prelude.{Bool, cond, List, map, ℕ, eqb, ℤ, get_or, take, drop}
use Rattle.lists.specs.Padded.{padded}
use Rattle.lists.specs.Rows.{first_rows}
use Rattle.lists.specs.Zipped.{zipped}
use Rattle.days.specs.Days.{is_on, is_working}
use Rattle.months.specs.Months.{last_trading_of}
use Rattle.rates.specs.Rules.{number_of}
use Rattle.rates.specs.Settling.{settled_from}
use Rattle.positions.specs.Deals.{flat}
use Rattle.positions.specs.declared.Mark.{Mark}
use Rattle.closing.specs.declared.DayEnd.{DayEnd}
use Rattle.accounts.specs.Accounts.{closed}
use Rattle.accounts.specs.declared.Account.{Account}
use Rattle.memory.specs.declared.header_row.Header.{Header}
use Rattle.memory.specs.declared.contract_rows.Contract.{Contract}
use Rattle.memory.specs.declared.outcome_rows.Outcome.{Outcome}
use Rattle.memory.specs.Rows.{blank_contract, blank_outcome}
use Rattle.memory.specs.Memory.{Rows, with_header_row, with_contracts, with_outcomes, with_accounts}
use Rattle.model.specs.Book.{no_tally, holding, besides}

-- ---- rates
-- the exceptions in use, and whether the day is a code's last trading day
abbrev pub exceptions_in : Rows → List ℕ
exceptions_in r = take r.header.exceptions r.exceptions

abbrev pub ends_in : Rows → ℕ → Bool
ends_in r code = is_on r.header.day (last_trading_of (is_working (exceptions_in r)) code)

abbrev pub outcome_from : Contract → Bool → ℤ → Outcome
outcome_from x ending final = record {
  code = x.code;
  rate = (settled_from x.tally x.previous ending final).rate;
  rule = number_of (settled_from x.tally x.previous ending final).rule;
  used = (settled_from x.tally x.previous ending final).used;
}

abbrev pub outcome_in : Rows → ℤ → Contract → Outcome
outcome_in r final x = outcome_from x (ends_in r x.code) final

abbrev pub outcome_for : ℤ → ℕ → Rows → Outcome
outcome_for final k r = outcome_in r final (get_or r.contracts k blank_contract)

abbrev pub priced : ℤ → Rows → Rows
priced final r = with_outcomes r (map (outcome_in r final) r.contracts)

-- ---- accounts
-- a contract has ended where rule 5 gave its rate
abbrev pub has_ended : Outcome → Bool
has_ended o = eqb o.rule 5

abbrev pub mark_from : Contract → Outcome → Mark
mark_from x o = record { previous = x.previous; rate = o.rate; ending = has_ended o }

abbrev pub day_end_in : Rows → DayEnd
day_end_in r = record {
  marks = zipped mark_from r.contracts r.outcomes;
  margins = map (λ x. x.margin) r.contracts;
  reference = r.header.reference;
  multiplier = r.header.multiplier;
}

-- the first contract is the only one that can end
abbrev pub first_ended : Rows → Bool
first_ended r = has_ended (get_or r.outcomes 0 blank_outcome)

-- where it has ended, what stands beside the others moves up
abbrev pub moved_up : {X : Type 0} → Bool → X → List X → List X
moved_up ended blank l = padded 6 blank (drop (cond ended 1 0) l)

abbrev pub with_positions_up : Bool → Account → Account
with_positions_up ended a = record {
  number = a.number;
  holdings = holding (besides a.holdings) (moved_up ended flat a.holdings.positions);
  funds = a.funds;
}

abbrev pub closed_row : Bool → DayEnd → Account → Account
closed_row ended d a = with_positions_up ended (closed d a)

abbrev pub booked_with : Bool → DayEnd → Rows → Rows
booked_with ended d r = with_accounts r (first_rows (closed_row ended d) r.header.members r.accounts)

abbrev pub booked : Rows → Rows
booked r = booked_with (first_ended r) (day_end_in r) r

-- ---- contracts
abbrev pub renewed_row : Contract → Outcome → Contract
renewed_row x o = record { code = x.code; margin = x.margin; previous = o.rate; tally = no_tally }

-- in their places, a blank one past the last
abbrev pub renewed_at : Rows → ℕ → Contract
renewed_at r k = get_or (zipped renewed_row r.contracts r.outcomes) k blank_contract

abbrev pub renewed_rows : Bool → Rows → List Contract
renewed_rows ended r = moved_up ended blank_contract (zipped renewed_row r.contracts r.outcomes)

abbrev pub renewed_with : Bool → Rows → Rows
renewed_with ended r = with_contracts r (renewed_rows ended r)

abbrev pub renewed : Rows → Rows
renewed r = renewed_with (first_ended r) r

-- ---- the header
abbrev pub shut_header : Bool → Header → Header
shut_header ended h = record {
  point = 4;
  day = h.day;
  clock = 0;
  trades = 0;
  reference = h.reference;
  multiplier = h.multiplier;
  exceptions = h.exceptions;
  listed = cond ended 5 6;
  settled = 6;
  members = h.members;
}

abbrev pub shut : Rows → Rows
shut r = with_header_row r (shut_header (first_ended r) r.header)

-- ---- all of it
abbrev pub closed_rows : ℤ → Rows → Rows
closed_rows final r = shut (renewed (booked (priced final r)))
