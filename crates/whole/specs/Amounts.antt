-- Amounts: numbers from 0 to a bound. `Amount B z` is 0 ≤ z ≤ B, a record so that B and z are found from a hypothesis.
use Rattle.std.specs.Prelude.{ℕ, ◌+◌, ◌≤◌, ℤ, pos, negsuc, ◌+ℤ◌, ◌≤ℤ◌, ◌<ℤ◌}
use Rattle.std.specs.Int.Signed.{clash_ℤ}
use Rattle.whole.specs.Parts.{parts₂, ring, zarith}
use Rattle.whole.specs.Order.{pos-nonneg, ≤ℤ-trans}
use Rattle.whole.specs.Within.{Within, within-pos}
use Rattle.whole.specs.Larger.{larger, smaller, ring-larger}

pub record Amount (B : ℕ) (z : ℤ) : Type 0 where
  pub least : pos 0 ≤ℤ z
  pub most : z ≤ℤ pos B

pub amount-within : {B : ℕ} {z : ℤ} → Amount B z → Within B z
amount-within a = within-pos a.least a.most

pub amount-ind : (P : ℤ → Type 0) {B : ℕ} (z : ℤ) → Amount B z → ((n : ℕ) → n ≤ B → P (pos n)) → P z
amount-ind P {B} (pos n) a f = f n (amount-within a).size
amount-ind P (negsuc n) a f = absurd (clash_ℤ (below n) a.least)
  where
    below : (n : ℕ) → negsuc n <ℤ pos 0
    below n = simp ring (omega zarith)

pub amount-pos : {B : ℕ} (n : ℕ) → n ≤ B → Amount B (pos n)
amount-pos {B} n h = record { least = pos-nonneg n; most = le n h }
  where
    le : (n : ℕ) → n ≤ B → pos n ≤ℤ pos B
    le n h = simp ring (omega zarith)

pub amount-widen : {A B : ℕ} {z : ℤ} → Amount A z → A ≤ B → Amount B z
amount-widen {A} {B} {z} a h = record { least = a.least; most = ≤ℤ-trans a.most (amount-pos A h).most }

module _ {A B : ℕ} {x y : ℤ} (a : Amount A x) (b : Amount B y) where
  pub amount-+ : Amount (A + B) (x +ℤ y)
  amount-+ = record { least = least x y a.least b.least; most = most x y a.most b.most }
    where
      least : (x y : ℤ) → pos 0 ≤ℤ x → pos 0 ≤ℤ y → pos 0 ≤ℤ (x +ℤ y)
      least x y = parts₂ x y (λ u v. simp (u.is, v.is, ring) (omega zarith))

      most : (x y : ℤ) → x ≤ℤ pos A → y ≤ℤ pos B → (x +ℤ y) ≤ℤ pos (A + B)
      most x y = parts₂ x y (λ u v. simp (u.is, v.is, ring) (omega zarith))

module _ {B : ℕ} {x y : ℤ} (a : Amount B x) (b : Amount B y) where
  pub amount-larger : Amount B (larger x y)
  amount-larger = record { least = least x y a.least; most = most x y a.most b.most }
    where
      least : (x y : ℤ) → pos 0 ≤ℤ x → pos 0 ≤ℤ larger x y
      least x y = parts₂ x y (λ u v. simp (u.is, v.is, ring-larger) (omega zarith))

      most : (x y : ℤ) → x ≤ℤ pos B → y ≤ℤ pos B → larger x y ≤ℤ pos B
      most x y = parts₂ x y (λ u v. simp (u.is, v.is, ring-larger) (omega zarith))

  pub amount-smaller : Amount B (smaller x y)
  amount-smaller = record { least = least x y a.least b.least; most = most x y a.most }
    where
      least : (x y : ℤ) → pos 0 ≤ℤ x → pos 0 ≤ℤ y → pos 0 ≤ℤ smaller x y
      least x y = parts₂ x y (λ u v. simp (u.is, v.is, ring-larger) (omega zarith))

      most : (x y : ℤ) → x ≤ℤ pos B → smaller x y ≤ℤ pos B
      most x y = parts₂ x y (λ u v. simp (u.is, v.is, ring-larger) (omega zarith))
