-- The header at a time, and a memory into which it and a contract's row are put.
use Rattle.std.specs.Prelude.{◌≡◌, List, ℕ, ◌<◌, ℤ, set}
use Rattle.memory.specs.declared.header_row.Header.{Header}
use Rattle.memory.specs.declared.contract_rows.Contract.{Contract}
use Rattle.memory.specs.Layout.{with_header, with_contract_counts, with_contract_money}
use Rattle.memory.specs.Memory.{Rows, Holds, Shaped, with_header_row, with_contracts}
use Rattle.memory.specs.MemoryLaws.{put-header, put-contract, header-shaped}

-- the header at a time, after so many trades
abbrev pub clocked : Header → ℕ → ℕ → Header
clocked h time trades = record {
  point = h.point;
  day = h.day;
  clock = time;
  trades = trades;
  reference = h.reference;
  multiplier = h.multiplier;
  exceptions = h.exceptions;
  listed = h.listed;
  settled = h.settled;
  members = h.members;
}

-- what a trade and a quote write besides accounts
pub rows_written : {c c' : List ℕ} {m m' : List ℤ} (r : Rows) → Shaped r → Holds c m r → {k : ℕ} → k < 6
    → {x y : Contract} {g h : Header} → x ≡ y → g ≡ h → c' ≡ with_contract_counts (with_header c g) k x → m' ≡ with_contract_money m k x
    → Holds c' m' (with_header_row (with_contracts r (set r.contracts k y)) h)
rows_written r s holds {k} q {y = y} {h = h} e f u v =
    rw (u, v, e, f) (put-contract (with_header_row r h) (header-shaped r s h) (put-header r s holds h) k q y)
