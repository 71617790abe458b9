-- The over-limit is never negative, and is none where the total is within the basis.
use Rattle.std.specs.Prelude.{◌≡◌, ℕ, ℤ, pos, ◌-ℤ◌, ◌*ℤ◌, ◌≤ℤ◌}
use Rattle.std.proofs.Common.{ap, ◌∙◌}
use Rattle.std.proofs.Math.IntN.{zero-*ℤ}
use Rattle.whole.specs.Parts.{parts₂, zarith}
use Rattle.whole.specs.Order.{pos-nonneg, *ℤ-nonneg}
use Rattle.whole.specs.Larger.{larger, larger-above, ring-larger}
use Rattle.whole.specs.Round.{hundredth_up}
use Rattle.whole.proofs.RoundLaws.{hundredth-nonneg}
use Rattle.closing.specs.DayEnd.{over_limit}

pub over-nonneg : (total basis : ℤ) (multiplier : ℕ) → pos 0 ≤ℤ over_limit total basis multiplier
unfolding over_limit
over-nonneg total basis multiplier =
    hundredth-nonneg (larger (total -ℤ basis) (pos 0) *ℤ pos multiplier)
    (*ℤ-nonneg (larger-above (total -ℤ basis) (pos 0)).1 (pos-nonneg multiplier))

pub over_none : (total basis : ℤ) (multiplier : ℕ) → total ≤ℤ basis → over_limit total basis multiplier ≡ pos 0
unfolding over_limit hundredth_up
over_none total basis multiplier h =
    ap (λ z. hundredth_up (z *ℤ pos multiplier)) (none total basis h) ∙ ap hundredth_up (zero-*ℤ (pos multiplier))
  where
    none : (t b : ℤ) → t ≤ℤ b → larger (t -ℤ b) (pos 0) ≡ pos 0
    none t b = parts₂ t b (λ x y. simp (x.is, y.is, ring-larger) (omega zarith))
