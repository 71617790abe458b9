-- What a close leaves is within bounds, and so are the requirement and the core.
use Rattle.std.specs.Prelude.{ℕ, ◌+◌, ◌*◌, ◌/◌, ◌≤◌, ℤ, pos, ◌-ℤ◌, ◌*ℤ◌, ◌≤ℤ◌}
use Rattle.std.proofs.Common.{mul-le-mul, arith}
use Rattle.std.specs.Int.Signed.{le_z}
use Rattle.lists.specs.Keep.{cond-keeps}
use Rattle.whole.specs.Parts.{parts₂, zarith}
use Rattle.whole.specs.Within.{widen}
use Rattle.whole.specs.Larger.{larger, smaller, larger-above, ring-larger}
use Rattle.whole.specs.Round.{hundredth_up}
use Rattle.whole.specs.Amounts.{Amount, amount-ind, amount-pos, amount-+, amount-widen, amount-larger, amount-smaller}
use Rattle.booking.specs.Carried.{all_carried}
use Rattle.positions.specs.Bounds.{Kept}
use Rattle.totals.proofs.BoundLaws.{total-amount}
use Rattle.booking.specs.BoundLaws.{carried-kept, variation-within}
use Rattle.holdings.specs.Bounds.{GoodReference, Sound}
use Rattle.holdings.specs.declared.Holdings.{Holdings}
use Rattle.holdings.proofs.BoundLaws.{basis-amount}
use Rattle.closing.specs.DayEnd.{at_close, over_limit, requirement, full_core, with_core, core_by}
use Rattle.closing.specs.declared.DayEnd.{DayEnd}
use Rattle.closing.specs.Bounds.{GoodDayEnd}

-- ---- the requirement
-- what the total has above the basis is no more than the total
excess-amount : {B C : ℕ} {total basis : ℤ} → Amount B total → Amount C basis → Amount B (larger (total -ℤ basis) (pos 0))
excess-amount {B} {C} {total} {basis} t b = record {
  least = (larger-above (total -ℤ basis) (pos 0)).1;
  most = most total basis t.least t.most b.least;
}
  where
    most : (t b : ℤ) → pos 0 ≤ℤ t → t ≤ℤ pos B → pos 0 ≤ℤ b → larger (t -ℤ b) (pos 0) ≤ℤ pos B
    most t b = parts₂ t b (λ x y. simp (x.is, y.is, ring-larger) (omega zarith))

-- ten times 1.2 * 10^13 at most
pub over-amount : {total basis : ℤ} {multiplier : ℕ} → Amount 12000000000000 total → Amount 100000000000000 basis → multiplier ≤ 1000
    → Amount 120000000000000 (over_limit total basis multiplier)
unfolding over_limit hundredth_up
over-amount {total} {basis} {multiplier} t b m =
    amount-ind (λ x. Amount 120000000000000 (hundredth_up (x *ℤ pos multiplier))) (larger (total -ℤ basis) (pos 0)) (excess-amount t b)
    (λ n h. amount-pos ((n * multiplier + 99) / 100) (omega (arith, mul-le-mul h m)))

pub requirement-amount : {trades : ℕ} {h : Holdings} {reference multiplier : ℕ} → Sound trades h → GoodReference reference → multiplier ≤ 1000
    → Amount 320000000000000 (requirement h reference multiplier)
unfolding requirement
requirement-amount s r m = let b = basis-amount s.limits r in amount-+ (amount-+ b (over-amount s.dayend b m)) s.special

-- ---- the core
pub full-amount : {trades : ℕ} {h : Holdings} {reference : ℕ} → Sound trades h → GoodReference reference
    → Amount 100000000000000 (full_core h reference)
full-amount s r = amount-larger (basis-amount s.limits r) (amount-widen s.dayend (omega arith))

pub core-amount : {trades : ℕ} {h : Holdings} {reference : ℕ} → Sound trades h → GoodReference reference → (free : ℤ)
    → Amount 100000000000000 (core_by h reference free)
core-amount {h = h} {reference = reference} s r free =
    cond-keeps (Amount 100000000000000) (le_z (pos 0) free) (full_core h reference) (smaller (full_core h reference) h.core)
    (λ e. full-amount s r)
    (λ e. amount-smaller (full-amount s r) s.core)

-- ---- kept
module _ {trades : ℕ} {h : Holdings} (s : Sound trades h) where
  pub core-sound : {core : ℤ} → Amount 100000000000000 core → Sound trades (with_core h core)
  unfolding with_core
  core-sound a = record {
    limits = s.limits;
    coming = s.coming;
    core = a;
    special = s.special;
    dayend = s.dayend;
    variation = s.variation;
    positions = s.positions;
  }

  pub close-sound : {d : DayEnd} → trades ≤ 10000 → GoodDayEnd d → Sound 0 (at_close d h)
  unfolding at_close
  close-sound {d} few g =
      let left : Kept 0 (all_carried h.positions d.marks) = carried-kept s.positions g.marks in
      record {
        limits = s.coming;
        coming = s.coming;
        core = s.core;
        special = s.special;
        dayend = total-amount left.nets g.margins;
        variation = widen (variation-within s.positions g.marks) (omega arith);
        positions = left;
      }
