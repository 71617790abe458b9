-- What follows of means: one rate more, and the sizes of the two sums.
use Rattle.std.specs.Prelude.{◌≡◌, refl, List, [], ◌∷◌, ◌++◌, map, ℕ, zero, suc, ◌+◌, ◌*◌, ◌≤◌, ◌<◌, pos, length, take, get_or}
use Rattle.std.proofs.Common.{ap, ◌∙◌, add-one, add_comm, arith, take-suc}
use Rattle.std.proofs.Math.IntN.{+ℤ_comm}
use Rattle.lists.specs.Rows.{map-append}
use Rattle.whole.specs.Sums.{sum_z, sum-last}
use Rattle.whole.specs.Within.{Within, lit, widen, within-+, within-*}
use Rattle.tallies.specs.Day.{Quote}
use Rattle.tallies.specs.Means.{total, worth, mean_of, mean_with, once}
use Rattle.tallies.specs.Tally.{none, no_rates}
use Rattle.tallies.specs.Bounds.{Small, EachSmall, Fair}
use Rattle.tallies.specs.declared.Weighted.{Weighted}
use Rattle.tallies.specs.declared.Mean.{Mean}

-- ---- one rate more
total-last : (ns : List ℕ) (n : ℕ) → total (ns ++ (n ∷ [])) ≡ total ns + n
unfolding total
total-last [] n = omega arith
total-last (k ∷ ns) n = omega (arith, total-last ns n)

pub mean-more : (ws : List Weighted) (w : Weighted) → mean_of (ws ++ (w ∷ [])) ≡ mean_with (mean_of ws) w
unfolding mean_of mean_with
mean-more ws w =
    rw (
      map-append worth ws (w ∷ []),
      map-append (λ (v : Weighted). v.weight) ws (w ∷ []),
      sum-last (map worth ws) (worth w),
      total-last (map (λ (v : Weighted). v.weight) ws) w.weight,
    )

pub mean-first : (w : Weighted) (ws : List Weighted) → mean_of (w ∷ ws) ≡ mean_with (mean_of ws) w
unfolding mean_of mean_with total sum_z
mean-first w ws =
    rw (+ℤ_comm (worth w) (sum_z (map worth ws)), add_comm w.weight (total (map (λ (v : Weighted). v.weight) ws)))

-- where a loop over a list starts, and one turn
pub mean-none : mean_of [] ≡ no_rates
unfolding mean_of total sum_z
mean-none = refl

pub mean-step : (ws : List Weighted) (i : ℕ) → i < length ws
    → mean_of (take (i + 1) ws) ≡ mean_with (mean_of (take i ws)) (get_or ws i none)
mean-step ws i h =
    ap (λ n. mean_of (take n ws)) (add-one i)
    ∙ ap mean_of (take-suc ws i none h)
    ∙ mean-more (take i ws) (get_or ws i none)

-- ---- weights
-- quotes weigh as many as they are
pub once-weigh : (quotes : List Quote) → (mean_of (map once quotes)).weight ≡ length quotes
unfolding mean_of total
once-weigh [] = refl
once-weigh (q ∷ quotes) = omega (arith, once-weigh quotes)

-- each weighs no more than all
pub weight-most : (ws : List Weighted) (i : ℕ) → (get_or ws i none).weight ≤ (mean_of ws).weight
unfolding mean_of total
weight-most [] i = omega arith
weight-most (w ∷ ws) zero = omega arith
weight-most (w ∷ ws) (suc i) = omega (arith, weight-most ws i)

-- ---- sizes
pub small-none : Small none
small-none = record { weight = omega arith; rate = record { size = omega arith } }

pub each_take : (n : ℕ) (ws : List Weighted) → EachSmall ws → EachSmall (take n ws)
each_take n ws small = record { at = go n ws small.at }
  where
    go : (n : ℕ) (ws : List Weighted) → ((i : ℕ) → Small (get_or ws i none)) → (i : ℕ) → Small (get_or (take n ws) i none)
    go zero ws s i = small-none
    go (suc n) [] s i = small-none
    go (suc n) (w ∷ ws) s zero = s zero
    go (suc n) (w ∷ ws) s (suc i) = go n ws (λ k. s (suc k)) i

pub fair-none : {W : ℕ} → Fair W no_rates
fair-none = record { weight = omega arith; sum = record { size = omega arith } }

pub fair-with : {A B : ℕ} (m : Mean) (w : Weighted) → Fair A m → Within 100000 w.rate → m.weight + w.weight ≤ B
    → Fair B (mean_with m w)
unfolding mean_with
fair-with m w f r room = record {
  weight = room;
  sum = widen (within-+ f.sum (within-* (lit (pos w.weight)) r)) (omega arith);
}

pub fair-of : (ws : List Weighted) → EachSmall ws → Fair (1000 * length ws) (mean_of ws)
unfolding mean_of total sum_z
fair-of [] small = fair-none
fair-of (w ∷ ws) small =
    let rest = fair-of ws (record { at = λ i. small.at (suc i) }) in
    let first = small.at 0 in
    record {
      weight = omega (arith, first.weight, rest.weight);
      sum = widen (within-+ (within-* (lit (pos w.weight)) first.rate) rest.sum) (omega arith);
    }

pub fair-size : {W : ℕ} (m : Mean) → Fair W m → Within (100000 * W) m.sum
fair-size m f = widen f.sum (omega (arith, f.weight))

pub fair-wider : {A B : ℕ} (m : Mean) → Fair A m → A ≤ B → Fair B m
fair-wider m f h = record { weight = omega (arith, f.weight); sum = f.sum }
