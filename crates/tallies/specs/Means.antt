-- Means of rates with weights, not yet divided.
use Rattle.std.specs.Prelude.{List, [], ◌∷◌, map, ℕ, ◌+◌, ℤ, pos, ◌+ℤ◌, ◌*ℤ◌}
use Rattle.whole.specs.Sums.{sum_z}
use Rattle.tallies.specs.Day.{Trade, Quote}
use Rattle.tallies.specs.declared.Weighted.{Weighted}
use Rattle.tallies.specs.declared.Mean.{Mean}

-- ---- what is weighed
-- Document 01, Settlement rate, rules 1 to 3.

abbrev pub weighted : ℕ → ℤ → Weighted
weighted weight rate = record { weight = weight; rate = rate }

-- "lot-weighted mean": a trade weighs its lots.
abbrev pub by_lots : Trade → Weighted
by_lots t = weighted t.lots t.rate

-- "mean bid", "mean offer": a quote weighs 1.
abbrev pub once : Quote → Weighted
once q = weighted 1 q.rate

-- ---- the mean
-- A mean is held as its two sums, so that there is "one rounding at the end".

unfoldable pub total : List ℕ → ℕ
total [] = 0
total (x ∷ xs) = x + total xs

-- a weight times its rate
abbrev pub worth : Weighted → ℤ
worth w = pos w.weight *ℤ w.rate

unfoldable pub mean_of : List Weighted → Mean
mean_of ws = record { sum = sum_z (map worth ws); weight = total (map (λ w. w.weight) ws) }

-- with one more
unfoldable pub mean_with : Mean → Weighted → Mean
mean_with m w = record { sum = m.sum +ℤ worth w; weight = m.weight + w.weight }
