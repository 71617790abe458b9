-- A number reads back as it was written, the bytes that read are the ones written, and no part of them reads.
use Rattle.std.specs.Prelude.{◌≡◌, refl, List, [], ◌∷◌, ◌++◌, ℕ, zero, suc, ◌+◌, ◌*◌, ◌-◌, ◌/◌, ◌%◌, ◌^◌, ◌≤◌, ◌<◌, length}
use Rattle.std.proofs.Common.{sym, ap, ◌∙◌, append_assoc, append-nil, pow-suc, arith, lt-ltb, le-ltb}
use Rattle.std.proofs.Math.Decide.{dec_lt}
use Rattle.numbers.specs.Below.{Small, below-cons, below_left}
use Rattle.numbers.specs.Seven.{Got, none, got, groups, encode, before, unbounded, bounded, decode}

-- ---- the last byte of a number, and one before it
pub unbounded-last : (b : ℕ) (s : List ℕ) → b < 128 → unbounded (b ∷ s) ≡ got b s
unfolding unbounded
unbounded-last b s h = rw (lt-ltb b 128 h)

pub unbounded-more : (b : ℕ) (s : List ℕ) → 128 ≤ b → unbounded (b ∷ s) ≡ before b (unbounded s)
unfolding unbounded
unbounded-more b s h = rw (le-ltb b 128 h)

pub groups-last : (k n : ℕ) → n < 128 → groups (suc k) n ≡ n ∷ []
unfolding groups
groups-last k n h = rw (lt-ltb n 128 h)

pub groups-more : (k n : ℕ) → 128 ≤ n → groups (suc k) n ≡ (n % 128 + 128) ∷ groups k (n / 128)
unfolding groups
groups-more k n h = rw (le-ltb n 128 h)

-- ---- what was written is read
unbounded-groups : (k n : ℕ) (r : List ℕ) → n < 128 ^ suc k → unbounded (groups (suc k) n ++ r) ≡ got n r
unbounded-groups zero n r h = rw (groups-last 0 n h) (unbounded-last n r h)
unbounded-groups (suc k) n r h = go (dec_lt n 128) (unbounded-groups k (n / 128) r (omega (arith, pow-suc 128 (suc k))))
  where
    go : Dec (n < 128) → unbounded (groups (suc k) (n / 128) ++ r) ≡ got (n / 128) r → unbounded (groups (suc (suc k)) n ++ r) ≡ got n r
    go (yes p) ih = rw (groups-last (suc k) n p) (unbounded-last n r p)
    go (no p) ih =
        let e : n % 128 + 128 - 128 + n / 128 * 128 ≡ n = omega arith in
        rw (groups-more (suc k) n (omega arith), unbounded-more (n % 128 + 128) (groups (suc k) (n / 128) ++ r) (omega arith), ih, lt-ltb 0 (n / 128) (omega arith), e)

pub decode-encode : (n : ℕ) (r : List ℕ) → n < 2 ^ 64 → decode (encode n ++ r) ≡ got n r
decode-encode n r h = rw (unbounded-groups 9 n r (omega arith), lt-ltb n (2 ^ 64) h)

-- ---- what was read is what is written
-- what comes before the higher groups, taken apart
pub before-got : (b : ℕ) (g : Got) (n : ℕ) (r : List ℕ) → before b g ≡ got n r → (m : ℕ) × (g ≡ got m r) × (0 < m) × (n ≡ b - 128 + m * 128)
before-got b none n r e = let z : ◌≡◌ {A = ℕ} 0 1 = cc in absurd (omega arith)
before-got b (got m t) n r e = go (dec_lt 0 m)
  where
    go : Dec (0 < m) → (m' : ℕ) × (got m t ≡ got m' r) × (0 < m') × (n ≡ b - 128 + m' * 128)
    go (yes p) =
        let q : got (b - 128 + m * 128) t ≡ got n r = rw (lt-ltb 0 m p) at e in
        let qr : t ≡ r = cc in
        (m, rw qr, p, cc)
    go (no p) =
        let q : none ≡ got n r = rw (le-ltb 0 m (omega arith)) at e in
        let z : ◌≡◌ {A = ℕ} 0 1 = cc in
        absurd (omega arith)

unbounded-inverse : (s r : List ℕ) (n k : ℕ) → Small s → unbounded s ≡ got n r → n < 128 ^ suc k → s ≡ groups (suc k) n ++ r
unfolding unbounded
unbounded-inverse [] r n k small e h = let z : ◌≡◌ {A = ℕ} 0 1 = cc in absurd (omega arith)
unbounded-inverse (b ∷ s) r n k small e h = go (dec_lt b 128) k (unbounded-inverse s) h
  where
    Again : Type 0
    Again = (r : List ℕ) (n k : ℕ) → Small s → unbounded s ≡ got n r → n < 128 ^ suc k → s ≡ groups (suc k) n ++ r

    go : Dec (b < 128) → (k : ℕ) → Again → n < 128 ^ suc k → b ∷ s ≡ groups (suc k) n ++ r
    go (yes p) k ih h =
        let q : got b s ≡ got n r = sym (unbounded-last b s p) ∙ e in
        let qn : b ≡ n = cc in
        let qr : s ≡ r = cc in
        rw (← qn, groups-last k b p, qr)
    go (no p) zero ih h =
        let a = before-got b (unbounded s) n r (sym (unbounded-more b s (omega arith)) ∙ e) in
        absurd (omega arith)
    go (no p) (suc k) ih h =
        let a = before-got b (unbounded s) n r (sym (unbounded-more b s (omega arith)) ∙ e) in
        let u : b < 256 = small 0 in
        let m : ℕ = a.0 in
        let d : n / 128 ≡ m = omega arith in
        let c : n % 128 + 128 ≡ b = omega arith in
        rw (groups-more (suc k) n (omega arith), d, c)
        (ap (λ l. b ∷ l) (ih r m k (λ i. small (suc i)) a.1 (omega (arith, pow-suc 128 (suc k)))))

pub bounded-got : (g : Got) (n : ℕ) (r : List ℕ) → bounded g ≡ got n r → (g ≡ got n r) × (n < 2 ^ 64)
bounded-got none n r e = let z : ◌≡◌ {A = ℕ} 0 1 = cc in absurd (omega arith)
bounded-got (got m t) n r e = go (dec_lt m (2 ^ 64))
  where
    go : Dec (m < 2 ^ 64) → (got m t ≡ got n r) × (n < 2 ^ 64)
    go (yes p) =
        let q : got m t ≡ got n r = rw (lt-ltb m (2 ^ 64) p) at e in
        let qn : m ≡ n = cc in
        (q, omega arith)
    go (no p) =
        let q : none ≡ got n r = rw (le-ltb m (2 ^ 64) (omega arith)) at e in
        let z : ◌≡◌ {A = ℕ} 0 1 = cc in
        absurd (omega arith)

pub decode-only : (s r : List ℕ) (n : ℕ) → Small s → decode s ≡ got n r → s ≡ encode n ++ r
decode-only s r n small e =
    let a = bounded-got (unbounded s) n r e in
    unbounded-inverse s r n 9 small a.0 (omega arith)

pub decode-fits : (s r : List ℕ) (n : ℕ) → decode s ≡ got n r → n < 2 ^ 64
decode-fits s r n e = (bounded-got (unbounded s) n r e).1

-- ---- the groups that are left to write
pub groups-some : (k n : ℕ) → 0 < length (groups (suc k) n)
groups-some k n = go (dec_lt n 128)
  where
    go : Dec (n < 128) → 0 < length (groups (suc k) n)
    go (yes p) = rw (groups-last k n p) (omega arith)
    go (no p) = rw (groups-more k n (omega arith)) (omega arith)

pub groups-most : (k n : ℕ) → length (groups k n) ≤ k
unfolding groups
groups-most zero n = omega arith
groups-most (suc k) n = go (dec_lt n 128) (groups-most k (n / 128))
  where
    go : Dec (n < 128) → length (groups k (n / 128)) ≤ k → length (groups (suc k) n) ≤ suc k
    go (yes p) ih = rw (groups-last k n p) (omega arith)
    go (no p) ih = rw (groups-more k n (omega arith)) (omega arith)

-- a large number has a group more
pub record Left (k n : ℕ) : Type 0 where
  pub fewer : ℕ
  pub fits : n / 128 < 128 ^ suc fewer
  pub is : groups (suc k) n ≡ (n % 128 + 128) ∷ groups (suc fewer) (n / 128)

pub left : (k n : ℕ) → n < 128 ^ suc k → 128 ≤ n → Left k n
left zero n h p = absurd (omega arith)
left (suc k) n h p = record { fewer = k; fits = omega (arith, pow-suc 128 (suc k)); is = groups-more (suc k) n p }

-- ---- bytes are small
pub groups-small : (k n : ℕ) → Small (groups k n)
unfolding groups
groups-small zero n = λ i. omega arith
groups-small (suc k) n = go (dec_lt n 128) (groups-small k (n / 128))
  where
    go : Dec (n < 128) → Small (groups k (n / 128)) → Small (groups (suc k) n)
    go (yes p) ih = rw (groups-last k n p) (below-cons 256 n [] (omega arith) λ i. omega arith)
    go (no p) ih = rw (groups-more k n (omega arith)) (below-cons 256 (n % 128 + 128) (groups k (n / 128)) (omega arith) ih)

-- ---- a part of a number is cut short, and nothing past a number is looked at
pub none_left : (a b : List ℕ) → a ++ b ≡ [] → b ≡ []
none_left [] b e = e
none_left (x ∷ a) b e = let z : ◌≡◌ {A = ℕ} 0 1 = cc in absurd (omega arith)

pub decode-stops : (s r other : List ℕ) (n : ℕ) → decode s ≡ got n r → decode (encode n ++ other) ≡ got n other
decode-stops s r other n e = decode-encode n other (decode-fits s r n e)

pub decode-part : (n : ℕ) (p q : List ℕ) → n < 2 ^ 64 → encode n ≡ p ++ q → (q ≡ [] → ⊥) → decode p ≡ none
decode-part n p q h is ne = go (decode p) refl
  where
    small : Small p
    small = below_left 256 p q (rw is at (groups-small 10 n))

    go : (g : Got) → decode p ≡ g → decode p ≡ none
    go none e = e
    go (got m r) e =
        let a : p ++ q ≡ encode m ++ (r ++ q) = ap (λ z. z ++ q) (decode-only p r m small e) ∙ append_assoc (encode m) r q in
        let b : decode (p ++ q) ≡ got m (r ++ q) = rw a (decode-stops p r (r ++ q) m e) in
        let d : decode (p ++ q) ≡ got n [] = rw (← is, ← append-nil (encode n)) (decode-encode n [] h) in
        let l : r ++ q ≡ [] = cc in
        absurd (ne (none_left r q l))
