-- What the code's tests and casts at i64 tell, and the tests that a contract cites.
use Rattle.std.specs.Prelude.{◌≡◌, refl, ◌⊎◌, Bool, true, false, not, ℕ, ◌^◌, ◌<◌, T, eqb, ℤ, pos, negsuc, nat_abs, ◌-ℤ◌, ◌≤ℤ◌, ◌<ℤ◌}
use Rattle.std.proofs.Common.{sym, ◌∙◌, ap, ap₂, subst, inl, inr, eq-eqb, eqb-true, Fits, SFits, to_z, of_z}
use Rattle.std.proofs.lemmas.Bool.{eqb-false}
use Rattle.std.specs.Int.Signed.{lt_z, le_z, non_neg, lt_z_yes, lt_z_no, le_z_yes, yes_non_neg, clash_ℤ}
use Rattle.std.specs.Int.{w64}
use Rattle.std.proofs.Math.Facts.{to_z_pos, Fits-nat_abs}
use Rattle.whole.specs.Parts.{parts₁, ring, zarith}
use Rattle.whole.specs.Order.{≤ℤ-total}
use Rattle.whole.specs.Machine.{back}

is_T : {t : Bool} → t ≡ true → T t
is_T e = subst T (sym e) tt

is-F : {t : Bool} → t ≡ false → T (not t)
is-F e = subst (λ t. T (not t)) (sym e) tt

T-is : (t : Bool) → T t → t ≡ true
T-is true h = refl
T-is false h = absurd h

F-is : (t : Bool) → (T t → ⊥) → t ≡ false
F-is true h = absurd (h tt)
F-is false h = refl

-- ---- order
-- A test of the code, `c.if1.taken` or `.left`, as an order of the numbers.
-- p and q say which numbers the machine's expressions e and f are.
-- They are `back c.fits.x` for a parameter, and `refl` for a literal.
module _ {e f x y : ℤ} (p : e ≡ x) (q : f ≡ y) where
  pub lt_yes : lt_z e f ≡ true → x <ℤ y
  lt_yes t = lt_z_yes (is_T (sym (ap₂ lt_z p q) ∙ t))

  pub lt_no : lt_z e f ≡ false → y ≤ℤ x
  lt_no t = lt_z_no (is-F (sym (ap₂ lt_z p q) ∙ t))

  pub le_yes : le_z e f ≡ true → x ≤ℤ y
  le_yes t = le_z_yes (is_T (sym (ap₂ le_z p q) ∙ t))

  pub le-no : le_z e f ≡ false → y <ℤ x
  le-no t = go (≤ℤ-total y x)
    where
      go : (y <ℤ x) ⊎ (x ≤ℤ y) → y <ℤ x
      go (inl h) = h
      go (inr h) = absurd (subst T (sym (ap₂ le_z p q) ∙ t) h.le)

-- an order of the numbers as the flag of a test
pub lt-true : {x y : ℤ} → x <ℤ y → lt_z x y ≡ true
lt-true {x} {y} h = T-is (lt_z x y) h.lt

pub lt-false : {x y : ℤ} → y ≤ℤ x → lt_z x y ≡ false
lt-false {x} {y} h = F-is (lt_z x y) (λ t. clash_ℤ (lt_z_yes t) h)

-- the test's flag at the numbers, for a contract that cites the test
module _ {e f x y : ℤ} {t : Bool} (p : e ≡ x) (q : f ≡ y) where
  pub lt-is : lt_z e f ≡ t → lt_z x y ≡ t
  lt-is h = sym (ap₂ lt_z p q) ∙ h

  pub le_is : le_z e f ≡ t → le_z x y ≡ t
  le_is h = sym (ap₂ le_z p q) ∙ h

-- ---- equality
-- The code compares bits.
pub eq_yes : {x : ℤ} {n : ℕ} → SFits w64 x → of_z w64 x ≡ n → x ≡ to_z w64 n
eq_yes f e = sym (back f) ∙ ap (to_z w64) e

abbrev pub eq_z : ℤ → ℤ → Bool
eq_z (pos a) (pos b) = eqb a b
eq_z (pos a) (negsuc b) = false
eq_z (negsuc a) (pos b) = false
eq_z (negsuc a) (negsuc b) = eqb a b

pub eq_z-true : {x y : ℤ} → x ≡ y → eq_z x y ≡ true
eq_z-true {x} {y} e = subst (λ t. eq_z x t ≡ true) e (self x)
  where
    self : (z : ℤ) → eq_z z z ≡ true
    self (pos n) = eq-eqb n n refl
    self (negsuc n) = eq-eqb n n refl

pub eq_z-yes : (x y : ℤ) → eq_z x y ≡ true → x ≡ y
eq_z-yes (pos a) (pos b) e = ap pos (eqb-true a b e)
eq_z-yes (pos a) (negsuc b) e = absurd (is_T e)
eq_z-yes (negsuc a) (pos b) e = absurd (is_T e)
eq_z-yes (negsuc a) (negsuc b) e = ap negsuc (eqb-true a b e)

pub eq_z-false : (x y : ℤ) → (x ≡ y → ⊥) → eq_z x y ≡ false
eq_z-false x y h = F-is (eq_z x y) (λ t. h (eq_z-yes x y (T-is (eq_z x y) t)))

-- the flag of `x == y`
pub eq_flag : {x y : ℤ} → SFits w64 x → SFits w64 y → eqb (of_z w64 x) (of_z w64 y) ≡ eq_z x y
eq_flag {x} {y} f g = go (eqb (of_z w64 x) (of_z w64 y)) refl
  where
    go : (t : Bool) → eqb (of_z w64 x) (of_z w64 y) ≡ t → t ≡ eq_z x y
    go true e = sym (eq_z-true (eq_yes f (eqb-true (of_z w64 x) (of_z w64 y) e) ∙ back g))
    go false e = sym (eq_z-false x y (λ q. eqb-false (of_z w64 x) (of_z w64 y) e (ap (of_z w64) q)))

-- ---- casts
-- what `x as u64` asks, of a number that is not negative
pub as-u64 : {e z : ℤ} → e ≡ z → SFits w64 z → pos 0 ≤ℤ z → T (non_neg e) × Fits w64 (nat_abs e)
as-u64 p f h =
    subst (λ t. T (non_neg t) × Fits w64 (nat_abs t)) (sym p) (yes_non_neg h, Fits-nat_abs tt f)

-- what the machine reads from the bits of `n as i64`
pub as-i64 : {n : ℕ} → n < 2 ^ 63 → to_z w64 n ≡ pos n
as-i64 h = to_z_pos w64 h

pub neg-flip : {x : ℤ} → x <ℤ pos 0 → pos 0 ≤ℤ (pos 0 -ℤ x)
neg-flip {x} = parts₁ x (λ a. simp (a.is, ring) (omega zarith))
