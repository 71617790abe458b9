-- Where some digits hold a number, the fewest are no more.
use Prim.Native.Nat.{ℕ, ◌-◌, ◌^◌, ◌≤◌, ◌<◌}
use native.Mathlib.Nat.{le_of_suc-le-suc, pow-le-pow_right, lt_of_not-le}
use native.Mathlib.Omega.{arith}
use Rattle.decimal.specs.Digits.{IsDigitCount}

not_above : (n k most : ℕ) → IsDigitCount n k → 1 ≤ most → n < 10 ^ most → most < k → ⊥
not_above n k most fewest within holds over =
    let p : 10 ^ (k - 1) ≤ n = fewest.2 (omega arith) in
    let ten : 0 < 10 = omega arith in
    let q : 10 ^ most ≤ 10 ^ (k - 1) = pow-le-pow_right (ten) (omega arith) in
    omega arith

-- where `most` digits hold n, the fewest are no more
pub count_le : (n k most : ℕ) → IsDigitCount n k → 1 ≤ most → n < 10 ^ most → k ≤ most
count_le n k most fewest within holds = le_of_suc-le-suc (lt_of_not-le (not_above n k most fewest within holds))
