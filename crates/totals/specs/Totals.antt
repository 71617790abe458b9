-- What positions ask for in margin.
use Rattle.std.specs.Prelude.{List, ℕ, ◌*◌, ℤ, pos, nat_abs}
use Rattle.lists.specs.Zipped.{zipped}
use Rattle.whole.specs.Sums.{sum_z}
use Rattle.positions.specs.declared.Position.{Position}

-- Document 01, Trade: "An account's total is the sum over contracts of |net| times margin rate (no netting between
-- contracts)."
abbrev pub asked : Position → ℕ → ℤ
asked p margin = pos (nat_abs p.net * margin)

unfoldable pub total : List Position → List ℕ → ℤ
total ps margins = sum_z (zipped asked ps margins)
