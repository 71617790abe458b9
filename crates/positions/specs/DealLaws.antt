-- What is kept of a day's deals grows deal by deal, and adds up.
use Rattle.std.specs.Prelude.{◌≡◌, List, [], ◌∷◌, ◌++◌, ℤ, ◌+ℤ◌, ◌*ℤ◌}
use Rattle.std.proofs.Math.IntN.{+ℤ_idr, +ℤ_assoc}
use Rattle.whole.specs.Sums.{sum_z}
use Rattle.whole.specs.Over.{over-append}
use Rattle.positions.specs.Deals.{Deal, lots_of, cost_of, position_of, overnight, dealt}

-- ---- two lists of deals
pub lots-append : (a b : List Deal) → lots_of (a ++ b) ≡ lots_of a +ℤ lots_of b
unfolding lots_of
lots-append a b = over-append _ a b

pub cost-append : (a b : List Deal) → cost_of (a ++ b) ≡ cost_of a +ℤ cost_of b
unfolding cost_of
cost-append a b = over-append _ a b

-- ---- no deal, and one more at the end
pub position-none : (before : ℤ) → position_of before [] ≡ overnight before
unfolding lots_of cost_of sum_z
position-none before = rw (+ℤ_idr before)

pub position-dealt : (before : ℤ) (today : List Deal) (d : Deal)
    → position_of before (today ++ (d ∷ [])) ≡ dealt (position_of before today) d.lots d.rate
unfolding lots_of cost_of sum_z
position-dealt before today d =
    rw (
      lots-append today (d ∷ []),
      cost-append today (d ∷ []),
      +ℤ_idr d.lots,
      +ℤ_idr (d.lots *ℤ d.rate),
      +ℤ_assoc before (lots_of today) d.lots,
    )
