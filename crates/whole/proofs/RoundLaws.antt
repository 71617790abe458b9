-- What follows of rounding. To the nearest, bounds hold for any tie rule, and equal quotients round alike by any that does not
-- look at the scale. The rule in force leaves a rest about zero (`rounded-centred`), and no other whole number does
-- (`centred-only`).
use Rattle.std.specs.Prelude.{◌≡◌, refl, Bool, true, false, not, ◌⊎◌, ℕ, zero, suc, ◌+◌, ◌*◌, ◌-◌, ◌/◌, ◌%◌, ◌<◌, ◌≤◌, T, ltb, ℤ, pos, negsuc, neg_ℤ, nat_abs, ◌+ℤ◌, ◌-ℤ◌, ◌*ℤ◌, ◌≤ℤ◌, ◌<ℤ◌}
use Rattle.std.proofs.Common.{sym, ◌∙◌, ap, ap₂, subst, inl, inr, div-add-mod', mod-lt, mul_comm, mul-pos, mul-le-mul_left, mul-le-mul_right, lt_of_mul-lt-mul_right, le_of_mul-le-mul_right, arith, ltb→lt, nltb→le}
use Rattle.std.proofs.Math.Nat.{mul-lt-mul_of_pos_left, mul-div-mul_left}
use borrow.Author.Tests.{lt-ltb, le-ltb}
use Rattle.std.proofs.Math.IntN.{+ℤ_invr, *ℤ_comm}
use Rattle.whole.specs.Parts.{Parts, ◌⊖◌, ⊖-lt, negsuc-⊖, parts₃, parts₄, ring, zarith}
use Rattle.whole.specs.Order.{≤ℤ-antisym, ≤ℤ-total, pos-nonneg}
use Rattle.whole.specs.Within.{Within, nat_abs-neg-pos, nat_abs-*}
use Rattle.whole.specs.Round.{Centred, on_tie, nearest_size, size_rounded_by, with_sign, rounded_by, rounded, hundredth_up}

-- ---- tie rules
-- A tie goes to one of the two whole numbers beside it: q or q + 1.
pub record TieRule (tie : ℤ → ℕ → ℕ) : Type 0 where
  pub least : (n : ℤ) (q : ℕ) → q ≤ tie n q
  pub most : (n : ℤ) (q : ℕ) → tie n q ≤ q + 1

pub on_tie-rule : TieRule on_tie
on_tie-rule = record { least = low; most = high }
  where
    low : (n : ℤ) (q : ℕ) → q ≤ on_tie n q
    low (pos n) q = omega arith
    low (negsuc n) q = omega arith

    high : (n : ℤ) (q : ℕ) → on_tie n q ≤ q + 1
    high (pos n) q = omega arith
    high (negsuc n) q = omega arith

-- ---- the three cases of a rest
module _ (q r d t : ℕ) where
  pub less-than-half : 2 * r < d → nearest_size q r d t ≡ q
  unfolding nearest_size
  less-than-half h = rw (lt-ltb (2 * r) d h)

  pub more-than-half : d < 2 * r → nearest_size q r d t ≡ q + 1
  unfolding nearest_size
  more-than-half h = rw (le-ltb (2 * r) d (omega arith), lt-ltb d (2 * r) h)

  pub half : 2 * r ≡ d → nearest_size q r d t ≡ t
  unfolding nearest_size
  half h = rw (le-ltb (2 * r) d (omega arith), le-ltb d (2 * r) (omega arith))

-- a proof by the three cases
data Rest (r d : ℕ) : Type 0 where
  less : 2 * r < d → Rest r d
  more : d < 2 * r → Rest r d
  tied : 2 * r ≡ d → Rest r d

rest : (r d : ℕ) → Rest r d
rest r d = first (ltb (2 * r) d) (ltb→lt (2 * r) d) (nltb→le (2 * r) d)
  where
    second : d ≤ 2 * r → (s : Bool) → (T s → d < 2 * r) → (T (not s) → 2 * r ≤ d) → Rest r d
    second h true f g = more (f tt)
    second h false f g = let k = g tt in tied (omega arith)

    first : (s : Bool) → (T s → 2 * r < d) → (T (not s) → d ≤ 2 * r) → Rest r d
    first true f g = less (f tt)
    first false f g = second (g tt) (ltb d (2 * r)) (ltb→lt d (2 * r)) (nltb→le d (2 * r))

-- ---- sizes
-- m is the dividend's size, and t the size that a tie goes to.
module _ (m d t : ℕ) (h : 0 < d) where
  abbrev size : ℕ
  size = nearest_size (m / d) (m % d) d t

  -- a law of the size holds where it holds of q, of q + 1 and of t, each in its case
  size-ind : (P : ℕ → Type 0) → (2 * (m % d) < d → P (m / d))
      → (d < 2 * (m % d) → P (m / d + 1)) → (2 * (m % d) ≡ d → P t) → P size
  size-ind P f g k = go (rest (m % d) d)
    where
      go : Rest (m % d) d → P size
      go (less e) = rw (less-than-half (m / d) (m % d) d t e) (f e)
      go (more e) = rw (more-than-half (m / d) (m % d) d t e) (g e)
      go (tied e) = rw (half (m / d) (m % d) d t e) (k e)

  split : m / d * d + m % d ≡ m
  split = div-add-mod' m d

  size-near : m / d ≤ t → t ≤ m / d + 1 → (2 * (size * d) ≤ 2 * m + d) × (2 * m ≤ 2 * (size * d) + d)
  size-near low high =
      size-ind (λ s. (2 * (s * d) ≤ 2 * m + d) × (2 * m ≤ 2 * (s * d) + d))
      (λ e. omega (arith, split))
      (λ e. omega (arith, split, mod-lt m h))
      (λ e. omega (arith, split, mul-le-mul_right d low, mul-le-mul_right d high))

  -- a size that m / d is not beyond
  size-most : (B : ℕ) → t ≤ m / d + 1 → m ≤ B * d → size ≤ B
  size-most B high room =
      size-ind (λ s. s ≤ B)
      (λ e. le_of_mul-le-mul_right {k = d} (omega (arith, split)) h)
      (λ e. omega (arith, under (omega (arith, split))))
      (λ e. omega (arith, under (omega (arith, split))))
    where
      under : m / d * d < B * d → m / d < B
      under = lt_of_mul-lt-mul_right d

-- ---- signs
-- the distance of n from d times a number of n's sign is that of the sizes
sign-apart : (n : ℤ) (d s : ℕ) → nat_abs (n -ℤ pos d *ℤ with_sign n s) ≡ (nat_abs n - s * d) + (s * d - nat_abs n)
unfolding with_sign
sign-apart (pos n) d s = simp ring (omega zarith)
sign-apart (negsuc n) d s = simp ring (omega zarith)

nat_abs-with_sign : (n : ℤ) (s : ℕ) → nat_abs (with_sign n s) ≡ s
unfolding with_sign
nat_abs-with_sign (pos n) s = refl
nat_abs-with_sign (negsuc n) s = nat_abs-neg-pos s

-- ---- rounding to the nearest
module _ (tie : ℤ → ℕ → ℕ) (n : ℤ) (d : ℕ) (h : 0 < d) where
  -- the result is at most half of d away
  pub rounded-near : TieRule tie → 2 * nat_abs (n -ℤ pos d *ℤ rounded_by tie n d) ≤ d
  rounded-near rule =
      let q = nat_abs n / d in
      let g = size-near (nat_abs n) d (tie n q) h (rule.least n q) (rule.most n q) in
      rw sign-apart (omega arith)

  -- the size is no larger than n's, and no larger than B where that of n / d is not
  pub size-rounded-most : TieRule tie → size_rounded_by tie n d ≤ nat_abs n
  size-rounded-most rule =
      let q = nat_abs n / d in
      size-most (nat_abs n) d (tie n q) h (nat_abs n) (rule.most n q)
      (omega (arith, mul-le-mul_left (nat_abs n) h))

  pub rounded-within : {B : ℕ} → TieRule tie → Within (B * d) n → Within B (rounded_by tie n d)
  rounded-within {B} rule w =
      let q = nat_abs n / d in
      record { size = rw nat_abs-with_sign (size-most (nat_abs n) d (tie n q) h B (rule.most n q) w.size) }

-- ---- the hundredth, rounded up
pub hundredth-nonneg : (x : ℤ) → pos 0 ≤ℤ x → pos 0 ≤ℤ hundredth_up x
unfolding hundredth_up
hundredth-nonneg (pos n) h = pos-nonneg ((n + 99) / 100)
hundredth-nonneg (negsuc n) h = absurd h.le

pub hundredth-bounds : (x : ℤ) → (x ≤ℤ (pos 100 *ℤ hundredth_up x)) × ((pos 100 *ℤ hundredth_up x) <ℤ (x +ℤ pos 100))
unfolding hundredth_up
hundredth-bounds (pos n) = simp ring (omega zarith)
hundredth-bounds (negsuc n) = below (negsuc n) (negsuc-⊖ n)
  where
    -- x as a variable, since `negsuc n +ℤ pos 100` computes to a form that simp does not gather
    below : (x : ℤ) → x ≡ 0 ⊖ suc n → let r = neg_ℤ (pos (suc n / 100)) in
        (x ≤ℤ (pos 100 *ℤ r)) × ((pos 100 *ℤ r) <ℤ (x +ℤ pos 100))
    below x e = simp (e, ring) (omega zarith)

in_order : (x r s : ℤ) → x ≤ℤ (pos 100 *ℤ r) → (pos 100 *ℤ s) <ℤ (x +ℤ pos 100) → s ≤ℤ r
in_order x r s = parts₃ x r s (λ a b c. simp (a.is, b.is, c.is, ring) (omega zarith))

pub hundredth-only : (x r : ℤ) → x ≤ℤ (pos 100 *ℤ r) → (pos 100 *ℤ r) <ℤ (x +ℤ pos 100) → r ≡ hundredth_up x
hundredth-only x r h k =
    let u = hundredth_up x in
    let b = hundredth-bounds x in
    ≤ℤ-antisym (in_order x u r b.0 k) (in_order x r u h b.1)

pub hundredth-within : {B : ℕ} (x : ℤ) → Within (100 * B) x → Within B (hundredth_up x)
unfolding hundredth_up
hundredth-within {B} (pos n) h = record { size = omega (arith, h.size) }
hundredth-within {B} (negsuc n) h = record { size = rw nat_abs-neg-pos (omega (arith, h.size)) }

-- ---- between bounds
-- A whole number beyond a bound is at least d away from a dividend that is not beyond it.
-- omega is handed the law of the naturals for the product.
module _ (n y z : ℤ) (d : ℕ) (h : y <ℤ z) where
  products : (b : Parts y) (c : Parts z) → d * suc (b.p + c.n) ≤ d * (c.p + b.n)
  products b c = mul-le-mul_left d (⊖-lt b.p b.n c.p c.n (simp (b.is, c.is) at h))

  below_apart : (pos d *ℤ z) ≤ℤ n → d ≤ nat_abs (n -ℤ pos d *ℤ y)
  below_apart = parts₃ n y z (λ a b c. simp (a.is, b.is, c.is, ring) (omega (zarith, products b c)))

  above_apart : n ≤ℤ (pos d *ℤ y) → d ≤ nat_abs (n -ℤ pos d *ℤ z)
  above_apart = parts₃ n y z (λ a b c. simp (a.is, b.is, c.is, ring) (omega (zarith, products b c)))

module _ (tie : ℤ → ℕ → ℕ) (rule : TieRule tie) (n : ℤ) (d : ℕ) (h : 0 < d) where
  not-apart : d ≤ nat_abs (n -ℤ pos d *ℤ rounded_by tie n d) → ⊥
  not-apart k = omega (arith, rounded-near tie n d h rule)

  pub rounded-least : (lo : ℤ) → (pos d *ℤ lo) ≤ℤ n → lo ≤ℤ rounded_by tie n d
  rounded-least lo k = go (≤ℤ-total z lo)
    where
      z : ℤ
      z = rounded_by tie n d

      go : (z <ℤ lo) ⊎ (lo ≤ℤ z) → lo ≤ℤ z
      go (inl e) = absurd (not-apart (below_apart n z lo d e k))
      go (inr e) = e

  pub rounded-most : (hi : ℤ) → n ≤ℤ (pos d *ℤ hi) → rounded_by tie n d ≤ℤ hi
  rounded-most hi k = go (≤ℤ-total hi z)
    where
      z : ℤ
      z = rounded_by tie n d

      go : (hi <ℤ z) ⊎ (z ≤ℤ hi) → z ≤ℤ hi
      go (inl e) = absurd (not-apart (above_apart n hi z d e k))
      go (inr e) = e

-- ---- equal quotients
-- a multiple of a number has its sign
scaled_sign : (P : ℤ → ℤ → Type 0) → ((a b : ℕ) → P (pos a) (pos b)) → ((a b : ℕ) → P (negsuc a) (negsuc b))
    → (k : ℕ) → 0 < k → (n : ℤ) → P (pos k *ℤ n) n
scaled_sign P f g k h (pos n) = f (k * n) n
scaled_sign P f g k h (negsuc n) = go (k * suc n) (mul-pos h (omega arith))
  where
    go : (m : ℕ) → 0 < m → P (neg_ℤ (pos m)) (negsuc n)
    go zero h = absurd (omega arith)
    go (suc m) h = g m n

with_sign-scaled : (k : ℕ) → 0 < k → (n : ℤ) (s : ℕ) → with_sign (pos k *ℤ n) s ≡ with_sign n s
unfolding with_sign
with_sign-scaled k h n s = scaled_sign (λ x y. with_sign x s ≡ with_sign y s) (λ a b. refl) (λ a b. refl) k h n

-- the rule in force does not look at the scale
pub on_tie-scaled : (k : ℕ) → 0 < k → (n : ℤ) (q : ℕ) → on_tie (pos k *ℤ n) q ≡ on_tie n q
on_tie-scaled k h n q = scaled_sign (λ x y. on_tie x q ≡ on_tie y q) (λ a b. refl) (λ a b. refl) k h n

rest-scaled : (k m d : ℕ) → 0 < k → k * m % (k * d) ≡ k * (m % d)
rest-scaled k m d h =
    let e : m / d * (k * d) + k * m % (k * d) ≡ k * m =
    rw (← mul-div-mul_left m d h) (div-add-mod' (k * m) (k * d)) in
    omega (arith, ap (λ x. k * x) (div-add-mod' m d))

size-scaled : (k q r d t : ℕ) → 0 < k → nearest_size q (k * r) (k * d) t ≡ nearest_size q r d t
size-scaled k q r d t h = go (rest r d)
  where
    go : Rest r d → nearest_size q (k * r) (k * d) t ≡ nearest_size q r d t
    go (less e) =
        less-than-half q (k * r) (k * d) t (omega (arith, mul-lt-mul_of_pos_left e h)) ∙ sym (less-than-half q r d t e)
    go (more e) =
        more-than-half q (k * r) (k * d) t (omega (arith, mul-lt-mul_of_pos_left e h)) ∙ sym (more-than-half q r d t e)
    go (tied e) = half q (k * r) (k * d) t (omega (arith, ap (λ x. k * x) e)) ∙ sym (half q r d t e)

module _ (tie : ℤ → ℕ → ℕ) (same : (k : ℕ) → 0 < k → (n : ℤ) (q : ℕ) → tie (pos k *ℤ n) q ≡ tie n q) where
  pub rounded-scaled : (k : ℕ) → 0 < k → (n : ℤ) (d : ℕ) → rounded_by tie (pos k *ℤ n) (k * d) ≡ rounded_by tie n d
  rounded-scaled k h n d =
      let m = nat_abs n in
      rw
      (with_sign-scaled k h n, nat_abs-* (pos k) n, mul-div-mul_left m d h, rest-scaled k m d h, same k h n (m / d))
      (ap (with_sign n) (size-scaled k (m / d) (m % d) d (tie n (m / d)) h))

  pub rounded-same : (n m : ℤ) (d e : ℕ) → 0 < d → 0 < e → n *ℤ pos e ≡ m *ℤ pos d
      → rounded_by tie n d ≡ rounded_by tie m e
  rounded-same n m d e h k q =
      sym (rounded-scaled e k n d)
      ∙ ap₂ (rounded_by tie) (*ℤ_comm (pos e) n ∙ q ∙ *ℤ_comm m (pos d)) (mul_comm e d)
      ∙ rounded-scaled d h m e

-- ---- the rule in force: ties go to the higher number
module _ (m d s : ℕ) where
  centred-above : 2 * (s * d) ≤ 2 * m + d → 2 * m < 2 * (s * d) + d → Centred (pos m) d (pos s)
  centred-above a b = record { least = simp ring (omega zarith); most = simp ring (omega zarith) }

  centred-below : 2 * (s * d) < 2 * suc m + d → 2 * suc m ≤ 2 * (s * d) + d → Centred (negsuc m) d (neg_ℤ (pos s))
  centred-below a b = record { least = simp ring (omega zarith); most = simp ring (omega zarith) }

pub rounded-centred : (n : ℤ) (d : ℕ) → 0 < d → Centred n d (rounded n d)
unfolding with_sign
rounded-centred (pos m) d h =
    let t = on_tie (pos m) (m / d) in
    let w = size-ind m d t h (λ s. (2 * (s * d) ≤ 2 * m + d) × (2 * m < 2 * (s * d) + d))
    (λ e. omega (arith, split m d t h))
    (λ e. omega (arith, split m d t h, mod-lt m h))
    (λ e. omega (arith, split m d t h)) in
    centred-above m d _ w.0 w.1
rounded-centred (negsuc m) d h =
    let k = suc m in
    let t = on_tie (negsuc m) (k / d) in
    let w = size-ind k d t h (λ s. (2 * (s * d) < 2 * k + d) × (2 * k ≤ 2 * (s * d) + d))
    (λ e. omega (arith, split k d t h))
    (λ e. omega (arith, split k d t h, mod-lt k h))
    (λ e. omega (arith, split k d t h)) in
    centred-below m d _ w.0 w.1

-- of two numbers the lower leaves too much, or the higher too little
centred-apart : (n y z : ℤ) (d : ℕ) → y <ℤ z → Centred n d y → Centred n d z → ⊥
centred-apart n y z d h u v = go u.most v.least
  where
    go : (pos 2 *ℤ (n -ℤ pos d *ℤ y)) <ℤ pos d → neg_ℤ (pos d) ≤ℤ (pos 2 *ℤ (n -ℤ pos d *ℤ z)) → ⊥
    go = parts₃ n y z (λ a b c. simp (a.is, b.is, c.is, ring) (omega (zarith, products n y z d h b c)))

pub centred-only : (n y z : ℤ) (d : ℕ) → Centred n d y → Centred n d z → y ≡ z
centred-only n y z d u v = ≤ℤ-antisym (not-below z y v u) (not-below y z u v)
  where
    not-below : (a b : ℤ) → Centred n d a → Centred n d b → b ≤ℤ a
    not-below a b p q = go (≤ℤ-total a b)
      where
        go : (a <ℤ b) ⊎ (b ≤ℤ a) → b ≤ℤ a
        go (inl e) = absurd (centred-apart n a b d e p q)
        go (inr e) = e

-- d times a number more: the quotient is that number more, on both sides of zero
pub rounded-more : (n t : ℤ) (d : ℕ) → 0 < d → rounded (pos d *ℤ t +ℤ n) d ≡ t +ℤ rounded n d
rounded-more n t d h =
    centred-only sum (rounded sum d) (t +ℤ rounded n d) d (rounded-centred sum d h)
    (record {
      least = subst (λ x. neg_ℤ (pos d) ≤ℤ (pos 2 *ℤ x)) left (rounded-centred n d h).least;
      most = subst (λ x. (pos 2 *ℤ x) <ℤ pos d) left (rounded-centred n d h).most;
    })
  where
    sum : ℤ
    sum = pos d *ℤ t +ℤ n

    same : (d t n z : ℤ) → n -ℤ d *ℤ z ≡ (d *ℤ t +ℤ n) -ℤ d *ℤ (t +ℤ z)
    same d t n z = parts₄ d t n z (λ a b c e. simp (a.is, b.is, c.is, e.is, ring) (omega zarith))

    left : n -ℤ pos d *ℤ rounded n d ≡ sum -ℤ pos d *ℤ (t +ℤ rounded n d)
    left = same (pos d) t n (rounded n d)

-- a whole quotient is itself, at zero and below too
pub rounded-exact : (z : ℤ) (d : ℕ) → 0 < d → rounded (pos d *ℤ z) d ≡ z
rounded-exact z d h =
    centred-only (pos d *ℤ z) (rounded (pos d *ℤ z) d) z d (rounded-centred (pos d *ℤ z) d h)
    (record {
      least = rw (+ℤ_invr (pos d *ℤ z)) (simp ring (omega zarith));
      most = rw (+ℤ_invr (pos d *ℤ z)) (simp ring (omega zarith));
    })

-- Document 01, marked examples 6 and 7, the latter as request L1 has it: a mean of 0.5 is 1, and of -0.5 is 0.
pub example-6 : rounded (pos 3) 6 ≡ pos 1
unfolding nearest_size with_sign
example-6 = refl

pub example-7 : rounded (negsuc 2) 6 ≡ pos 0
unfolding nearest_size with_sign
example-7 = refl
