-- What rounding means. RoundLaws has what follows.
use Rattle.std.specs.Prelude.{cond, ℕ, suc, ◌+◌, ◌*◌, ◌/◌, ◌%◌, ltb, ℤ, pos, negsuc, neg_ℤ, nat_abs, ◌-ℤ◌, ◌*ℤ◌, ◌≤ℤ◌, ◌<ℤ◌}

-- ---- to the nearest
-- Document 01, Settlement rate: "One rounding at the end, to nearest, ties away from zero (house)."
-- Request L1: "The trading centre's ties go towards the higher rate, also below zero: -0.5 becomes 0, where we print -1.
-- Round rules 1 to 3 so, and every later mean." The request decides on ties, document 01 on all else.

-- What is asked of z as n / d, said without signs and sizes: what is left of n, n - d z, goes from half of d below zero, which
-- is a tie that went up, to less than half of d above. `rounded-centred` and `centred-only` in RoundLaws say that `rounded n d`
-- is so, and nothing else.
pub record Centred (n : ℤ) (d : ℕ) (z : ℤ) : Type 0 where
  pub least : neg_ℤ (pos d) ≤ℤ (pos 2 *ℤ (n -ℤ pos d *ℤ z))
  pub most : (pos 2 *ℤ (n -ℤ pos d *ℤ z)) <ℤ pos d

-- The tie rule: the size that a tie goes to, where q is the whole part of the quotient's size.
-- Above zero the higher number has the larger size, below zero the smaller.
abbrev pub on_tie : ℤ → ℕ → ℕ
on_tie (pos n) q = q + 1
on_tie (negsuc n) q = q

-- The size of a quotient with whole part q and rest r of d.
-- Less than half of d is dropped, more than half goes up, and exactly half goes to t.
unfoldable pub nearest_size : ℕ → ℕ → ℕ → ℕ → ℕ
nearest_size q r d t = cond (ltb (2 * r) d) q (cond (ltb d (2 * r)) (q + 1) t)

-- The size of n / d to the nearest, by a tie rule.
abbrev pub size_rounded_by : (ℤ → ℕ → ℕ) → ℤ → ℕ → ℕ
size_rounded_by tie n d = nearest_size (nat_abs n / d) (nat_abs n % d) d (tie n (nat_abs n / d))

-- The size m with the sign of n.
unfoldable pub with_sign : ℤ → ℕ → ℤ
with_sign (pos n) m = pos m
with_sign (negsuc n) m = neg_ℤ (pos m)

-- n / d to the nearest whole number, for any tie rule.
abbrev pub rounded_by : (ℤ → ℕ → ℕ) → ℤ → ℕ → ℤ
rounded_by tie n d = with_sign n (size_rounded_by tie n d)

-- n / d to the nearest whole number, by the rule in force.
abbrev pub rounded : ℤ → ℕ → ℤ
rounded n d = rounded_by on_tie n d

-- ---- up
-- Document 01, Close: "over-limit = max(total - clearing limit x reference rate, 0) x multiplier / 100,
-- rounded up".

-- x / 100, rounded up. Below zero, up is towards zero.
unfoldable pub hundredth_up : ℤ → ℤ
hundredth_up (pos n) = pos ((n + 99) / 100)
hundredth_up (negsuc n) = neg_ℤ (pos (suc n / 100))
