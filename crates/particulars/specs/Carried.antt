-- What is read of a contract's row and of a position in it.
use Rattle.std.specs.Prelude.{List, ℕ, ℤ, get_or}
use Rattle.lists.specs.Tabulate.{tab}
use Rattle.positions.specs.Deals.{flat}
use Rattle.positions.specs.declared.Position.{Position}
use Rattle.memory.specs.declared.contract_rows.Contract.{Contract}
use Rattle.memory.specs.Layout.{contract_at}
use Rattle.particulars.specs.declared.Stood.{Stood}

-- the code, the previous settlement rate and the net before today
abbrev pub stood_at : Contract → Position → Stood
stood_at row p = record { code = row.code; previous = row.previous; net = p.before }

-- of the six rows, with six positions
abbrev pub stood : List ℕ → List ℤ → List Position → List Stood
stood c m positions = tab (λ k. stood_at (contract_at c m k) (get_or positions k flat)) 6
