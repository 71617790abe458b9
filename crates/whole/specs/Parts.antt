-- The bridge from whole numbers to omega, which reads naturals only.
-- `a ⊖ b` is the whole number a − b of two naturals.
-- A law of ℤ is then one line. Each variable is taken as a difference of two naturals, simp gathers the differences,
-- and omega proves what is left: `law a b = parts₂ a b (λ x y. simp (x.is, y.is, ring) (omega zarith))`.
use Rattle.std.specs.Prelude.{◌≡◌, refl, Bool, true, false, not, ℕ, zero, suc, ◌+◌, ◌*◌, ◌-◌, ◌<◌, ◌≤◌, T, ltb, ℤ, pos, negsuc, neg_ℤ, nat_abs, ◌+ℤ◌, ◌*ℤ◌, ◌≤ℤ◌, ◌<ℤ◌}
use Rattle.std.proofs.Common.{sym, ◌∙◌, ap, ap₂, subst, add-zero, zero-add, zero-mul, arith, ltb→lt, nltb→le, leb→le, le→leb, lt→ltb, lt-ltb, le-ltb}
use Rattle.std.proofs.Math.IntN.{sub_ℕ, +ℤ_assoc, +ℤ_comm, +ℤ_idr, +ℤ_invr, neg_ℤ-+ℤ, neg_ℤ-neg_ℤ, zero-*ℤ, *ℤ-zero, *ℤ-negsuc}
use Rattle.std.specs.Int.Signed.{lt_z, le_z, ≤ℤ_refl}
use Rattle.whole.specs.Ring.{add-mulℤ, mul-addℤ}

-- ---- the difference of two naturals
-- Shut, so that simp sees the call.
infixl 6 ◌⊖◌
pub ◌⊖◌ : ℕ → ℕ → ℤ
a ⊖ b = sub_ℕ a b

pub ⊖-pos : (a b : ℕ) → b ≤ a → a ⊖ b ≡ pos (a - b)
unfolding ◌⊖◌
⊖-pos a b h = rw (le-ltb a b h)

pub ⊖-neg : (a b : ℕ) → a < b → a ⊖ b ≡ negsuc (b - suc a)
unfolding ◌⊖◌
⊖-neg a b h = rw (lt-ltb a b h)

⊖-is : (a b : ℕ) → a ⊖ b ≡ pos a +ℤ neg_ℤ (pos b)
unfolding ◌⊖◌
⊖-is a zero = rw (le-ltb a zero (omega arith)) (ap pos e)
  where
    e : a - zero ≡ a + zero
    e = omega arith
⊖-is a (suc b) = refl

pub pos-⊖ : (n : ℕ) → pos n ≡ n ⊖ zero
pos-⊖ n = sym (⊖-pos n zero (omega arith) ∙ ap pos e)
  where
    e : n - zero ≡ n
    e = omega arith

pub negsuc-⊖ : (n : ℕ) → negsuc n ≡ zero ⊖ suc n
negsuc-⊖ n = sym (⊖-neg zero (suc n) (omega arith) ∙ ap negsuc e)
  where
    e : suc n - suc zero ≡ n
    e = omega arith

-- ---- sum, negation and product of differences
swap-middle : (p q r s : ℤ) → (p +ℤ q) +ℤ (r +ℤ s) ≡ (p +ℤ r) +ℤ (q +ℤ s)
swap-middle p q r s =
    +ℤ_assoc p q (r +ℤ s)
    ∙ ap (λ t. p +ℤ t) (sym (+ℤ_assoc q r s) ∙ ap (λ t. t +ℤ s) (+ℤ_comm q r) ∙ +ℤ_assoc r q s)
    ∙ sym (+ℤ_assoc p r (q +ℤ s))

pub ⊖+⊖ : (a b c d : ℕ) → (a ⊖ b) +ℤ (c ⊖ d) ≡ (a + c) ⊖ (b + d)
⊖+⊖ a b c d =
    ap₂ ◌+ℤ◌ (⊖-is a b) (⊖-is c d)
    ∙ swap-middle (pos a) (neg_ℤ (pos b)) (pos c) (neg_ℤ (pos d))
    ∙ ap (λ t. pos (a + c) +ℤ t) (sym (neg_ℤ-+ℤ (pos b) (pos d)))
    ∙ sym (⊖-is (a + c) (b + d))

pub neg⊖ : (a b : ℕ) → neg_ℤ (a ⊖ b) ≡ b ⊖ a
neg⊖ a b =
    ap neg_ℤ (⊖-is a b)
    ∙ neg_ℤ-+ℤ (pos a) (neg_ℤ (pos b))
    ∙ ap (λ t. neg_ℤ (pos a) +ℤ t) (neg_ℤ-neg_ℤ (pos b))
    ∙ +ℤ_comm (neg_ℤ (pos a)) (pos b)
    ∙ sym (⊖-is b a)

-- `neg_ℤ (pos n)` is stuck on n, so that simp sees no `pos n` in it
pub neg-pos-⊖ : (n : ℕ) → neg_ℤ (pos n) ≡ zero ⊖ n
neg-pos-⊖ n = ap neg_ℤ (pos-⊖ n) ∙ neg⊖ n zero

⊖*pos : (a b c : ℕ) → (a ⊖ b) *ℤ pos c ≡ (a * c) ⊖ (b * c)
⊖*pos a b c =
    ap (λ t. t *ℤ pos c) (⊖-is a b)
    ∙ add-mulℤ (pos a) (neg_ℤ (pos b)) (pos c)
    ∙ ap (λ t. pos (a * c) +ℤ t) (neg-mul b)
    ∙ sym (⊖-is (a * c) (b * c))
  where
    neg-mul : (b : ℕ) → neg_ℤ (pos b) *ℤ pos c ≡ neg_ℤ (pos (b * c))
    neg-mul zero = zero-*ℤ (pos c) ∙ sym (ap (λ n. neg_ℤ (pos n)) (zero-mul c))
    neg-mul (suc b) = refl

*neg-pos : (m : ℤ) (n : ℕ) → m *ℤ neg_ℤ (pos n) ≡ neg_ℤ (m *ℤ pos n)
*neg-pos m zero = *ℤ-zero m ∙ sym (ap neg_ℤ (*ℤ-zero m))
*neg-pos m (suc n) = *ℤ-negsuc m n

pub ⊖*⊖ : (a b c d : ℕ) → (a ⊖ b) *ℤ (c ⊖ d) ≡ (a * c + b * d) ⊖ (b * c + a * d)
⊖*⊖ a b c d =
    ap (λ t. (a ⊖ b) *ℤ t) (⊖-is c d)
    ∙ mul-addℤ (a ⊖ b) (pos c) (neg_ℤ (pos d))
    ∙ ap₂ ◌+ℤ◌ (⊖*pos a b c) (*neg-pos (a ⊖ b) d ∙ ap neg_ℤ (⊖*pos a b d) ∙ neg⊖ (a * d) (b * d))
    ∙ ⊖+⊖ (a * c) (b * c) (b * d) (a * d)

-- ---- equal differences
pub ⊖-eq : (a b c d : ℕ) → a + d ≡ c + b → a ⊖ b ≡ c ⊖ d
⊖-eq a b c d h =
    ⊖-is a b
    ∙ moved (pos a) (pos b) (pos d)
    ∙ ap₂ ◌+ℤ◌ (ap pos h) (+ℤ_comm (neg_ℤ (pos b)) (neg_ℤ (pos d)))
    ∙ sym (moved (pos c) (pos d) (pos b))
    ∙ sym (⊖-is c d)
  where
    moved : (x y k : ℤ) → x +ℤ neg_ℤ y ≡ (x +ℤ k) +ℤ (neg_ℤ y +ℤ neg_ℤ k)
    moved x y k =
        sym (+ℤ_idr (x +ℤ neg_ℤ y))
        ∙ ap (λ t. (x +ℤ neg_ℤ y) +ℤ t) (sym (+ℤ_invr k))
        ∙ swap-middle x (neg_ℤ y) k (neg_ℤ k)

-- ---- order and size of differences, by which of the two naturals is the larger
data Sign (a b : ℕ) : Type 0 where
  over : b ≤ a → Sign a b
  under : a < b → Sign a b

sign : (a b : ℕ) → Sign a b
sign a b = go (ltb a b) (ltb→lt a b) (nltb→le a b)
  where
    go : (t : Bool) → (T t → a < b) → (T (not t) → b ≤ a) → Sign a b
    go true f g = under (f tt)
    go false f g = over (g tt)

le-at : (a b c d : ℕ) → Sign a b → Sign c d → T (le_z (a ⊖ b) (c ⊖ d)) → a + d ≤ c + b
le-at a b c d (over h) (over k) t =
    let g = leb→le (a - b) (c - d) (rw (⊖-pos a b h, ⊖-pos c d k) at t) in
    omega arith
le-at a b c d (over h) (under k) t = absurd (rw (⊖-pos a b h, ⊖-neg c d k) at t)
le-at a b c d (under h) (over k) t = omega arith
le-at a b c d (under h) (under k) t =
    let g = leb→le (d - suc c) (b - suc a) (rw (⊖-neg a b h, ⊖-neg c d k) at t) in
    omega arith

lt_at : (a b c d : ℕ) → Sign a b → Sign c d → T (lt_z (a ⊖ b) (c ⊖ d)) → a + d < c + b
lt_at a b c d (over h) (over k) t =
    let g = ltb→lt (a - b) (c - d) (rw (⊖-pos a b h, ⊖-pos c d k) at t) in
    omega arith
lt_at a b c d (over h) (under k) t = absurd (rw (⊖-pos a b h, ⊖-neg c d k) at t)
lt_at a b c d (under h) (over k) t = omega arith
lt_at a b c d (under h) (under k) t =
    let g = ltb→lt (d - suc c) (b - suc a) (rw (⊖-neg a b h, ⊖-neg c d k) at t) in
    omega arith

pub ⊖-le : (a b c d : ℕ) → (a ⊖ b) ≤ℤ (c ⊖ d) → a + d ≤ c + b
⊖-le a b c d h = le-at a b c d (sign a b) (sign c d) h.le

pub ⊖-lt : (a b c d : ℕ) → (a ⊖ b) <ℤ (c ⊖ d) → a + d < c + b
⊖-lt a b c d h = lt_at a b c d (sign a b) (sign c d) h.lt

pub ⊖-inj : (a b c d : ℕ) → a ⊖ b ≡ c ⊖ d → a + d ≡ c + b
⊖-inj a b c d e =
    let g = ⊖-le a b c d (subst (λ t. (a ⊖ b) ≤ℤ t) e (≤ℤ_refl (a ⊖ b))) in
    let h = ⊖-le c d a b (subst (λ t. t ≤ℤ (a ⊖ b)) e (≤ℤ_refl (a ⊖ b))) in
    omega arith

at-le : (a b c d : ℕ) → Sign a b → Sign c d → a + d ≤ c + b → T (le_z (a ⊖ b) (c ⊖ d))
at-le a b c d (over h) (over k) t =
    rw (⊖-pos a b h, ⊖-pos c d k) (le→leb (a - b) (c - d) (omega arith))
at-le a b c d (over h) (under k) t = absurd (clash h k t)
  where
    clash : b ≤ a → c < d → a + d ≤ c + b → ⊥
    clash h k t = omega arith
at-le a b c d (under h) (over k) t = rw (⊖-neg a b h, ⊖-pos c d k) tt
at-le a b c d (under h) (under k) t =
    rw (⊖-neg a b h, ⊖-neg c d k) (le→leb (d - suc c) (b - suc a) (omega arith))

at_lt : (a b c d : ℕ) → Sign a b → Sign c d → a + d < c + b → T (lt_z (a ⊖ b) (c ⊖ d))
at_lt a b c d (over h) (over k) t =
    rw (⊖-pos a b h, ⊖-pos c d k) (lt→ltb (a - b) (c - d) (omega arith))
at_lt a b c d (over h) (under k) t = absurd (clash h k t)
  where
    clash : b ≤ a → c < d → a + d < c + b → ⊥
    clash h k t = omega arith
at_lt a b c d (under h) (over k) t = rw (⊖-neg a b h, ⊖-pos c d k) tt
at_lt a b c d (under h) (under k) t =
    rw (⊖-neg a b h, ⊖-neg c d k) (lt→ltb (d - suc c) (b - suc a) (omega arith))

pub le-⊖ : (a b c d : ℕ) → a + d ≤ c + b → (a ⊖ b) ≤ℤ (c ⊖ d)
le-⊖ a b c d h = record { le = at-le a b c d (sign a b) (sign c d) h }

pub lt-⊖ : (a b c d : ℕ) → a + d < c + b → (a ⊖ b) <ℤ (c ⊖ d)
lt-⊖ a b c d h = record { lt = at_lt a b c d (sign a b) (sign c d) h }

pub nat_abs-⊖ : (a b : ℕ) → nat_abs (a ⊖ b) ≡ (a - b) + (b - a)
nat_abs-⊖ a b = go (sign a b)
  where
    go : Sign a b → nat_abs (a ⊖ b) ≡ (a - b) + (b - a)
    go (over h) = rw (⊖-pos a b h) (omega arith)
    go (under h) = rw (⊖-neg a b h) (omega arith)

-- ---- the parts of a whole number
abbrev pub up : ℤ → ℕ
up (pos n) = n
up (negsuc n) = zero

abbrev pub down : ℤ → ℕ
down (pos n) = zero
down (negsuc n) = suc n

-- Each whole number is the difference of two naturals. simp takes `is`.
-- omega reads the other fields unasked. They tie the naturals to what a hypothesis says of the number.
pub record Parts (z : ℤ) : Type 0 where
  pub p : ℕ
  pub n : ℕ
  pub is : z ≡ p ⊖ n
  pub is_up : up z ≡ p
  pub is_down : down z ≡ n
  pub size : nat_abs z ≡ p + n

pub parts : (z : ℤ) → Parts z
parts (pos n) = record {
  p = n;
  n = zero;
  is = pos-⊖ n;
  is_up = refl;
  is_down = refl;
  size = sym (add-zero n);
}
parts (negsuc n) = record {
  p = zero;
  n = suc n;
  is = negsuc-⊖ n;
  is_up = refl;
  is_down = refl;
  size = sym (zero-add (suc n));
}

pub parts₁ : {G : Type 0} (a : ℤ) → (Parts a → G) → G
parts₁ a f = f (parts a)

pub parts₂ : {G : Type 0} (a b : ℤ) → (Parts a → Parts b → G) → G
parts₂ a b f = f (parts a) (parts b)

pub parts₃ : {G : Type 0} (a b c : ℤ) → (Parts a → Parts b → Parts c → G) → G
parts₃ a b c f = f (parts a) (parts b) (parts c)

pub parts₄ : {G : Type 0} (a b c d : ℤ) → (Parts a → Parts b → Parts c → Parts d → G) → G
parts₄ a b c d f = f (parts a) (parts b) (parts c) (parts d)

pub parts₅ : {G : Type 0} (a b c d e : ℤ) → (Parts a → Parts b → Parts c → Parts d → Parts e → G) → G
parts₅ a b c d e f = f (parts a) (parts b) (parts c) (parts d) (parts e)

-- ---- a hypothesis between whole numbers, as omega reads it
pub ≤-parts : (a b : ℤ) → a ≤ℤ b → up a + down b ≤ up b + down a
≤-parts a b h =
    let x = parts a in
    let y = parts b in
    let k = subst (λ t. t ≤ℤ (y.p ⊖ y.n)) x.is (subst (λ t. a ≤ℤ t) y.is h) in
    let g = ⊖-le x.p x.n y.p y.n k in
    omega arith

pub <-parts : (a b : ℤ) → a <ℤ b → up a + down b < up b + down a
<-parts a b h =
    let x = parts a in
    let y = parts b in
    let k = subst (λ t. t <ℤ (y.p ⊖ y.n)) x.is (subst (λ t. a <ℤ t) y.is h) in
    let g = ⊖-lt x.p x.n y.p y.n k in
    omega arith

pub ≡-parts : (a b : ℤ) → a ≡ b → up a + down b ≡ up b + down a
≡-parts a b h =
    let x = parts a in
    let y = parts b in
    let g = ⊖-inj x.p x.n y.p y.n (sym x.is ∙ h ∙ y.is) in
    omega arith

-- ---- what simp and omega are handed
pub ruleset ring = (⊖+⊖, ⊖*⊖, neg⊖, neg-pos-⊖, pos-⊖, negsuc-⊖, nat_abs-⊖)

pub ruleset zarith = (arith, ⊖-eq, ⊖-inj, ⊖-le, ⊖-lt, le-⊖, lt-⊖, ≤-parts, <-parts, ≡-parts)
