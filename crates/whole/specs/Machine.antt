-- The machine's expressions at i64, mirrored step by step.
-- The machine keeps a signed number as bits. An operation reads its operands from bits and writes its result as bits.
-- `Reads B e z` says that e, which goes through bits, is the number z, and that |z| ≤ B.
-- A proof builds a `Reads` with one step for each operation of the code.
-- `fits` of it answers what the operation asks, and its `eq` answers a return.
use Rattle.std.specs.Prelude.{◌≡◌, refl, ℕ, zero, suc, ◌+◌, ◌*◌, ◌/◌, ◌%◌, ◌^◌, ◌<◌, ◌≤◌, T, ltb, leb, ℤ, pos, negsuc, nat_abs, ◌+ℤ◌, ◌-ℤ◌, ◌*ℤ◌, ◌<ℤ◌}
use Rattle.std.proofs.Common.{sym, ◌∙◌, ap, ap₂, subst, div-le_self, le_trans, lt_of_le_of_lt, arith, ltb→lt, SFits, to_z, of_z, to_z-of_z}
use Rattle.std.proofs.Math.Nat.{mod-le}
use Rattle.std.specs.Int.Signed.{mag, quot_z, rem_z, <ℤ_irrefl}
use Rattle.std.specs.Int.{w64}
use Rattle.std.proofs.Math.Facts.{to_z_pos}
use Rattle.whole.specs.Within.{Within, nat_abs-neg-pos, within-+, within--, within-*, wider}

-- ---- a number that fits an i64 is read back from its bits
mag-le : (z : ℤ) → mag z ≤ nat_abs z
mag-le (pos n) = omega arith
mag-le (negsuc n) = omega arith

-- A bound has to be below 2^63. `..-below` takes that as a fact, the short name as a test that computes, `tt`.
pub fits64-below : {B : ℕ} {z : ℤ} → Within B z → B < 2 ^ 63 → SFits w64 z
fits64-below {B} {z} h t = record { sfits = lt_of_le_of_lt (le_trans (mag-le z) h.size) t }

pub fits64 : {B : ℕ} {z : ℤ} → Within B z → T (ltb B (2 ^ 63)) → SFits w64 z
fits64 {B} h t = fits64-below h (ltb→lt B (2 ^ 63) t)

pub back : {z : ℤ} → SFits w64 z → to_z w64 (of_z w64 z) ≡ z
back f = to_z-of_z f

-- an expression that is a number which fits: what its operation asks, and what is read back
module _ {e z : ℤ} (p : e ≡ z) (f : SFits w64 z) where
  pub fits-is : SFits w64 e
  fits-is = subst (SFits w64) (sym p) f

  pub back_is : to_z w64 (of_z w64 e) ≡ z
  back_is = ap (λ x. to_z w64 (of_z w64 x)) p ∙ back f

-- a number that was read through a reference or that a struct holds
pub told : (z : ℤ) → mag z < 2 ^ 63 → to_z w64 (of_z w64 z) ≡ z
told z h = back (record { sfits = h })

-- ---- where an expression starts
pub record Reads (B : ℕ) (e z : ℤ) : Type 0 where
  pub eq : e ≡ z
  pub within : Within B z

-- a literal, or any number as it stands
pub now : {B : ℕ} {z : ℤ} → Within B z → Reads B z z
now h = record { eq = refl; within = h }

-- a parameter
pub arg-below : {B : ℕ} {z : ℤ} → Within B z → B < 2 ^ 63 → Reads B (to_z w64 (of_z w64 z)) z
arg-below h t = record { eq = back (fits64-below h t); within = h }

pub arg : {B : ℕ} {z : ℤ} → Within B z → T (ltb B (2 ^ 63)) → Reads B (to_z w64 (of_z w64 z)) z
arg {B} h t = arg-below h (ltb→lt B (2 ^ 63) t)

-- bits whose number an equation gives, as in a loop's invariant
pub held : {B : ℕ} {e z : ℤ} → e ≡ z → Within B z → Reads B e z
held p h = record { eq = p; within = h }

-- a number that an equation gives, as a call's `ensures`
pub via : {B : ℕ} {r e z : ℤ} → r ≡ e → Reads B e z → Reads B r z
via p h = record { eq = p ∙ h.eq; within = h.within }

-- `n as i64` of an unsigned number
pub unsigned : {B n : ℕ} → n ≤ B → T (ltb B (2 ^ 63)) → Reads B (to_z w64 n) (pos n)
unsigned {B} {n} h t =
    record { eq = to_z_pos w64 (lt_of_le_of_lt h (ltb→lt B (2 ^ 63) t)); within = record { size = h } }

-- ---- operations
-- a result, stored as bits and read again
pub kept-below : {B : ℕ} {e z : ℤ} → Reads B e z → B < 2 ^ 63 → Reads B (to_z w64 (of_z w64 e)) z
kept-below r t = record {
  eq = back_is r.eq (fits64-below r.within t);
  within = r.within;
}

pub kept : {B : ℕ} {e z : ℤ} → Reads B e z → T (ltb B (2 ^ 63)) → Reads B (to_z w64 (of_z w64 e)) z
kept {B} r t = kept-below r (ltb→lt B (2 ^ 63) t)

module _ {A B : ℕ} {e f x y : ℤ} (h : Reads A e x) (k : Reads B f y) where
  pub add : Reads (A + B) (e +ℤ f) (x +ℤ y)
  add = record { eq = ap₂ ◌+ℤ◌ h.eq k.eq; within = within-+ h.within k.within }

  pub sub : Reads (A + B) (e -ℤ f) (x -ℤ y)
  sub = record { eq = ap₂ ◌-ℤ◌ h.eq k.eq; within = within-- h.within k.within }

  pub mul : Reads (A * B) (e *ℤ f) (x *ℤ y)
  mul = record { eq = ap₂ ◌*ℤ◌ h.eq k.eq; within = within-* h.within k.within }

-- division toward zero, and the remainder, which has the dividend's sign
pub nat_abs-quot : (x y : ℤ) → nat_abs (quot_z x y) ≡ nat_abs x / nat_abs y
nat_abs-quot (pos a) (pos b) = refl
nat_abs-quot (pos a) (negsuc b) = nat_abs-neg-pos (a / suc b)
nat_abs-quot (negsuc a) (pos b) = nat_abs-neg-pos (suc a / b)
nat_abs-quot (negsuc a) (negsuc b) = refl

pub nat_abs-rem : (x y : ℤ) → nat_abs (rem_z x y) ≡ nat_abs x % nat_abs y
nat_abs-rem (pos a) y = refl
nat_abs-rem (negsuc a) y = nat_abs-neg-pos (suc a % nat_abs y)

module _ {A B : ℕ} {e f x y : ℤ} (h : Reads A e x) (k : Reads B f y) where
  pub quot : Reads A (quot_z e f) (quot_z x y)
  quot = record {
    eq = ap₂ quot_z h.eq k.eq;
    within = record {
      size = rw nat_abs-quot (le_trans (div-le_self (nat_abs x) (nat_abs y)) h.within.size);
    };
  }

  pub rem : Reads A (rem_z e f) (rem_z x y)
  rem = record {
    eq = ap₂ rem_z h.eq k.eq;
    within = record {
      size = rw nat_abs-rem (le_trans (mod-le (nat_abs x) (nat_abs y)) h.within.size);
    };
  }

-- ---- what an operation asks: its result fits
pub fits_below : {B : ℕ} {e z : ℤ} → Reads B e z → B < 2 ^ 63 → SFits w64 e
fits_below r t = fits-is r.eq (fits64-below r.within t)

pub fits : {B : ℕ} {e z : ℤ} → Reads B e z → T (ltb B (2 ^ 63)) → SFits w64 e
fits {B} r t = fits_below r (ltb→lt B (2 ^ 63) t)

-- a division and a remainder ask besides that the divisor's bits are not 0
bits_pos : (n : ℕ) (y : ℤ) → to_z w64 n ≡ y → pos 0 <ℤ y → 0 < n
bits_pos zero y e h = absurd (<ℤ_irrefl (subst (λ t. pos 0 <ℤ t) (sym e) h))
bits_pos (suc n) y e h = omega arith

pub divs : {A B n : ℕ} {e x y : ℤ} → Reads A e x → Reads B (to_z w64 n) y → pos 0 <ℤ y → T (ltb A (2 ^ 63))
    → (0 < n) × SFits w64 (quot_z e (to_z w64 n))
divs {n = n} {y = y} h k p t = (bits_pos n y k.eq p, fits (quot h k) t)

-- ---- calls
-- A callee is handed the machine's expression. Its bound is that of the number.
pub passed : {B : ℕ} {e z : ℤ} → Reads B e z → Within B e
passed r = subst (Within _) (sym r.eq) r.within

-- a parameter handed on, at the callee's own bound: `pass h tt tt`
pub pass : {A B : ℕ} {z : ℤ} → Within A z → T (ltb A (2 ^ 63)) → T (leb A B) → Within B (to_z w64 (of_z w64 z))
pass h s t = wider (passed (arg h s)) t

-- ---- a step with its expression left unsaid
-- A proof file names a step by its number alone: `top : (s : tie.Start) → Got B z`, `top s = got (add ..)`.
pub record Got (B : ℕ) (z : ℤ) : Type 0 where
  pub e : ℤ
  pub reads : Reads B e z

abbrev pub got : {B : ℕ} {e z : ℤ} → Reads B e z → Got B z
got {e = e} r = record { e = e; reads = r }
