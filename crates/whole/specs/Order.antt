-- The order of the whole numbers. Each law is one line by the bridge, but for products, which are not linear.
use Rattle.std.specs.Prelude.{◌≡◌, ◌⊎◌, Bool, true, false, not, ℕ, ◌*◌, T, ℤ, pos, negsuc, neg_ℤ, ◌+ℤ◌, ◌-ℤ◌, ◌*ℤ◌, ◌≤ℤ◌, ◌<ℤ◌}
use Rattle.std.proofs.Common.{inl, inr, zero-le, mul-le-mul_left, le→leb}
use Rattle.std.specs.Int.Signed.{lt_z, le_z_yes, lt_z_yes, lt_z_no}
use Rattle.whole.specs.Parts.{Parts, ◌⊖◌, ⊖-le, parts₂, parts₃, ring, zarith}

pub ≤ℤ-trans : {a b c : ℤ} → a ≤ℤ b → b ≤ℤ c → a ≤ℤ c
≤ℤ-trans {a} {b} {c} = parts₃ a b c (λ x y z. simp (x.is, y.is, z.is) (omega zarith))

pub ≤ℤ-antisym : {a b : ℤ} → a ≤ℤ b → b ≤ℤ a → a ≡ b
≤ℤ-antisym {a} {b} = parts₂ a b (λ x y. simp (x.is, y.is) (omega zarith))

pub <ℤ-weaken : {a b : ℤ} → a <ℤ b → a ≤ℤ b
<ℤ-weaken {a} {b} = parts₂ a b (λ x y. simp (x.is, y.is) (omega zarith))

pub ≤ℤ-total : (a b : ℤ) → (a <ℤ b) ⊎ (b ≤ℤ a)
≤ℤ-total a b = go (lt_z a b) lt_z_yes lt_z_no
  where
    go : (t : Bool) → (T t → a <ℤ b) → (T (not t) → b ≤ℤ a) → (a <ℤ b) ⊎ (b ≤ℤ a)
    go true f g = inl (f tt)
    go false f g = inr (g tt)

pub pos-nonneg : (n : ℕ) → pos 0 ≤ℤ pos n
pos-nonneg n = le_z_yes (le→leb 0 n zero-le)

-- ---- sums, negation, products
pub +ℤ-mono : {a b c d : ℤ} → a ≤ℤ b → c ≤ℤ d → (a +ℤ c) ≤ℤ (b +ℤ d)
+ℤ-mono {a} {b} {c} {d} =
    parts₂ a b (λ x y. parts₂ c d (λ z w. simp (x.is, y.is, z.is, w.is, ring) (omega zarith)))

pub negℤ-mono : {a b : ℤ} → a ≤ℤ b → neg_ℤ b ≤ℤ neg_ℤ a
negℤ-mono {a} {b} = parts₂ a b (λ x y. simp (x.is, y.is, ring) (omega zarith))

-- what is left of a number after a smaller one is taken
pub rest-nonneg : (x y : ℤ) → y ≤ℤ x → pos 0 ≤ℤ (x -ℤ y)
rest-nonneg x y = parts₂ x y (λ a b. simp (a.is, b.is, ring) (omega zarith))

-- omega is handed the law of the naturals for the product
*ℤ-mono-pos : (a b : ℤ) (k : ℕ) → a ≤ℤ b → (a *ℤ pos k) ≤ℤ (b *ℤ pos k)
*ℤ-mono-pos a b k h = parts₂ a b (λ x y. go x y (simp (x.is, y.is) at h))
  where
    go : (x : Parts a) (y : Parts b) → (x.p ⊖ x.n) ≤ℤ (y.p ⊖ y.n) → (a *ℤ pos k) ≤ℤ (b *ℤ pos k)
    go x y g =
        simp (x.is, y.is, ring)
        (omega (zarith, mul-le-mul_left k (⊖-le x.p x.n y.p y.n g)))

pub *ℤ-mono : {a b k : ℤ} → pos 0 ≤ℤ k → a ≤ℤ b → (a *ℤ k) ≤ℤ (b *ℤ k)
*ℤ-mono {a} {b} {k = pos k} h g = *ℤ-mono-pos a b k g
*ℤ-mono {k = negsuc k} h g = absurd h.le

pub *ℤ-nonneg : {a b : ℤ} → pos 0 ≤ℤ a → pos 0 ≤ℤ b → pos 0 ≤ℤ (a *ℤ b)
*ℤ-nonneg {a = pos a} {b = pos b} h k = pos-nonneg (a * b)
*ℤ-nonneg {a = pos a} {b = negsuc b} h k = absurd k.le
*ℤ-nonneg {a = negsuc a} h k = absurd h.le
