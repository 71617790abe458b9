-- Sums over the six contract rows, one row after another, for loops that add up what a call answers for each row.
use Rattle.std.specs.Prelude.{◌≡◌, List, ℕ, ◌+◌, ◌*◌, ◌^◌, ◌<◌, ◌≤◌, T, ltb, ℤ, pos, ◌+ℤ◌, length, take, get_or}
use Rattle.std.proofs.Common.{sym, ap, ap₂, ◌∙◌, subst, mul-le-mul_right, arith, take_all, to_z, of_z}
use Rattle.std.specs.Int.{w64}
use Rattle.lists.specs.Zipped.{zipped, zipped-length, zipped-at}
use Rattle.whole.specs.Within.{Within, Each, widen}
use Rattle.whole.specs.Machine.{Reads, arg}
use Rattle.whole.specs.Sums.{sum_z, sum_more, sum-within}
use Rattle.positions.specs.Deals.{flat}
use Rattle.positions.specs.declared.Position.{Position}

module _ {Y : Type 0} (f : Position → Y → ℤ) (y₀ : Y) (ps : List Position) (ys : List Y)
    (p : length ps ≡ 6) (q : length ys ≡ 6) where
  abbrev passed : ℕ → ℤ
  passed row = sum_z (take row (zipped f ps ys))

  six : length (zipped f ps ys) ≡ 6
  six = zipped-length f ps ys p q

  -- one row more: e is the sum so far as the machine holds it, r what the call answered
  pub row_more : {B : ℕ} {e r : ℤ} (row : ℕ) → Each B (zipped f ps ys) → T (ltb B (2 ^ 63)) → row < 6
      → e ≡ passed row → r ≡ f (get_or ps row flat) (get_or ys row y₀)
      → Reads (6 * B) (e +ℤ to_z w64 (of_z w64 r)) (passed (row + 1))
  row_more {B} {e} {r} row each t h d a = record {
    eq = ap₂ ◌+ℤ◌ d ((arg (subst (Within B) (sym answer) (each.at row)) t).eq ∙ answer)
        ∙ sym (sum_more (zipped f ps ys) row (omega (arith, six)));
    within = widen (sum-within (zipped f ps ys) (row + 1) each) (mul-le-mul_right B (omega arith));
  }
    where
      answer : r ≡ get_or (zipped f ps ys) row (pos 0)
      answer = a ∙ sym (zipped-at f (pos 0) flat y₀ ps ys row (omega (arith, p)) (omega (arith, q)))

  pub rows_all : (row : ℕ) → 6 ≤ row → passed row ≡ sum_z (zipped f ps ys)
  rows_all row h = ap sum_z (take_all row (zipped f ps ys) (omega (arith, six)))
