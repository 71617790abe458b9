-- What an open makes of the rows of a memory: the codes of the day are listed, each in the row of its place.
use Rattle.std.specs.Prelude.{cond, List, ℕ, ltb, ℤ, pos, get_or, Option}
use Rattle.lists.specs.Seek.{seek, on_found}
use Rattle.lists.specs.Tabulate.{tab}
use Rattle.positions.specs.Deals.{flat}
use Rattle.positions.specs.declared.Position.{Position}
use Rattle.accounts.specs.declared.Account.{Account}
use Rattle.memory.specs.declared.header_row.Header.{Header}
use Rattle.memory.specs.declared.contract_rows.Contract.{Contract}
use Rattle.memory.specs.Rows.{blank_contract}
use Rattle.memory.specs.Memory.{Rows, with_header_row, with_contracts}
use Rattle.model.specs.Book.{no_tally, besides, holding}
use Rattle.model.specs.Calls.{Opening}
use Rattle.standing.specs.WalkLaws.{walked}

-- ---- the row that each code had, 6 where it had none
abbrev pub place_found : Option ℕ → ℕ
place_found f = on_found f 6 (λ k. k)

abbrev pub places_by : (ℕ → Option ℕ) → List ℕ → List ℕ
places_by find codes = tab (λ j. place_found (find (get_or codes j 0))) 6

abbrev pub places_in : Rows → List ℕ → List ℕ
places_in r = places_by (λ c. seek (λ k. (get_or r.contracts k blank_contract).code) c r.header.listed 0)

-- ---- contracts: one that had a row keeps its terms, a new one has the record's
abbrev pub contract_with : ℕ → ℤ → ℕ → Contract
contract_with code rate margin = record { code = code; margin = margin; previous = rate; tally = no_tally }

abbrev pub relisted_row : Contract → ℕ → ℕ → ℤ → ℕ → Contract
relisted_row x place code rate margin = cond (ltb place 6) (contract_with code x.previous x.margin) (contract_with code rate margin)

abbrev pub rows_by : (ℕ → Contract) → List ℕ → List ℕ → List ℤ → List ℕ → List Contract
rows_by row places codes rates margins =
    tab (λ j. relisted_row (row (get_or places j 0)) (get_or places j 0) (get_or codes j 0) (get_or rates j (pos 0)) (get_or margins j 0)) 6

-- ---- accounts: a position stays with its code
abbrev pub relisted_positions : List ℕ → List Position → List Position
relisted_positions places positions = tab (λ j. get_or positions (get_or places j 0) flat) 6

abbrev pub relisted : List ℕ → Account → Account
relisted places a = record {
  number = a.number;
  holdings = holding (besides a.holdings) (relisted_positions places a.holdings.positions);
  funds = a.funds;
}

-- ---- all of it
abbrev pub relisted_rows : List ℕ → List ℤ → List ℕ → Rows → Rows
relisted_rows codes rates margins r =
    let places = places_in r codes in
    let rows = rows_by (λ k. get_or r.contracts k blank_contract) places codes rates margins in
    walked (with_contracts r rows) (relisted places) r.header.members

abbrev pub open_header : ℕ → Header → Header
open_header day h = record {
  point = 2;
  day = day;
  clock = 0;
  trades = 0;
  reference = h.reference;
  multiplier = h.multiplier;
  exceptions = h.exceptions;
  listed = 6;
  settled = h.settled;
  members = h.members;
}

abbrev pub opened_rows : List ℕ → Opening → Rows → Rows
opened_rows codes o r = with_header_row (relisted_rows codes o.rates o.margins r) (open_header o.day r.header)
