-- What follows for months: codes, lengths, and that settlement days rise.
use Rattle.std.specs.Prelude.{◌≡◌, Bool, true, false, ◌&&◌, cond, eqb, leb, ltb, Option, Some, None}
use Rattle.std.proofs.Math.Path.{refl}
use Rattle.std.proofs.Common.{sym, ap, ◌∙◌, arith, ltb-true, leb-true, lt-ltb, le-ltb, le-leb}
use Rattle.std.proofs.Math.Bool.{and-eq-true_iff}
use Prim.Native.Nat.{ℕ, zero, suc, ◌+◌, ◌-◌, ◌*◌, ◌/◌, ◌%◌, ◌≤◌, ◌<◌, min}
use Rattle.std.proofs.Math.Decide.{dec_lt}
use Rattle.months.specs.declared.Month.{Month}
use Rattle.days.specs.Days.{next_working, last_working, accepted}
use Rattle.days.specs.DayLaws.{on-no-day, next-none, First, first-of, first-misses, first-is, last_of, accepted-off}
use Rattle.months.specs.Months.{is_code, month_of, code_of, is_short, month_length, first_day, third_wednesday, settlement_day, before_that, last_trading_day}

-- ---- codes

in_code : (code : ℕ) → is_code code ≡ true → (code < 10000) × ((1 ≤ code % 100) × (code % 100 ≤ 12))
unfolding is_code
in_code code e =
    let a = (and-eq-true_iff (ltb code 10000) (leb 1 (code % 100) && leb (code % 100) 12)).0 e in
    let b = (and-eq-true_iff (leb 1 (code % 100)) (leb (code % 100) 12)).0 a.1 in
    (ltb-true _ _ a.0, (leb-true _ _ b.0, leb-true _ _ b.1))

-- a code's month has that code
pub code-of : (code : ℕ) (m : Month) → month_of code ≡ Some m → (code_of m.number ≡ code) × (m.number < 1200)
unfolding month_of code_of
code-of code m e = go (is_code code) refl e
  where
    go : (t : Bool) → is_code code ≡ t → cond t (Some (record { number = code / 100 * 12 + (code % 100 - 1) })) None ≡ Some m → (m.number / 12 * 100 + (m.number % 12 + 1) ≡ code) × (m.number < 1200)
    go true p q =
        let y : ◌≡◌ {A = Month} (record { number = code / 100 * 12 + (code % 100 - 1) }) m = cc in
        let z : code / 100 * 12 + (code % 100 - 1) ≡ m.number = ap (λ (x : Month). x.number) y in
        omega (arith, in_code code p)
    go false p q = let z : ◌≡◌ {A = ℕ} 0 1 = cc in absurd (omega arith)

-- and a month's code is that month's
pub month-of : (m : ℕ) → m < 1200 → month_of (code_of m) ≡ Some (record { number = m })
unfolding month_of code_of is_code
month-of m h =
    let y : (m / 12 * 100 + (m % 12 + 1)) / 100 ≡ m / 12 = omega arith in
    let r : (m / 12 * 100 + (m % 12 + 1)) % 100 ≡ m % 12 + 1 = omega arith in
    let z : m / 12 * 12 + (m % 12 + 1 - 1) ≡ m = omega arith in
    rw (y, r, lt-ltb (m / 12 * 100 + (m % 12 + 1)) 10000 (omega arith), le-leb 1 (m % 12 + 1) (omega arith), le-leb (m % 12 + 1) 12 (omega arith), z)

-- codes rise with the month
pub codes-rise : (m n : ℕ) → m < n → code_of m < code_of n
unfolding code_of
codes-rise m n h = omega arith

-- ---- the days of a month

pub length-within : (m : ℕ) → (28 ≤ month_length m) × (month_length m ≤ 31)
unfolding month_length
length-within m = go (eqb (m % 12) 1) (eqb (m / 12 % 4) 0) (is_short (m % 12))
  where
    go : (a b c : Bool) → (28 ≤ cond a (cond b 29 28) (cond c 30 31)) × (cond a (cond b 29 28) (cond c 30 31) ≤ 31)
    go true true c = omega arith
    go true false c = omega arith
    go false b true = omega arith
    go false b false = omega arith

pub first-most : (i : ℕ) → first_day i ≤ i * 31
unfolding first_day
first-most zero = omega arith
first-most (suc i) = omega (arith, first-most i, length-within (240 + i))

pub first-rises : (i n : ℕ) → first_day i + 28 * n ≤ first_day (i + n)
unfolding first_day
first-rises i zero = let z : i + 0 ≡ i = omega arith in omega (arith, ap first_day z)
first-rises i (suc n) = let z : i + suc n ≡ suc (i + n) = omega arith in omega (arith, ap first_day z, first-rises i n, length-within (240 + (i + n)))

-- the third Wednesday is the Wednesday among the days 15 to 21 of its month
pub third : (m : ℕ) → (third_wednesday m % 7 ≡ 0) × ((first_day (m - 240) + 14 ≤ third_wednesday m) × (third_wednesday m ≤ first_day (m - 240) + 20))
unfolding third_wednesday
third m = (omega arith, (omega arith, omega arith))

-- the calendar ends with December 2029
ends : first_day 120 ≡ 3653
unfolding first_day month_length
ends = refl

pub past_end : (m : ℕ) → 360 ≤ m → 3653 ≤ third_wednesday m
past_end m h = let z : 120 + (m - 360) ≡ m - 240 = omega arith in omega (arith, third m, ends, first-rises 120 (m - 360), ap first_day z)

-- ---- the settlement day of a month, by where the month lies
module _ (w : ℕ → Bool) (m : ℕ) where
  pub settle-before : m < 240 → settlement_day w m ≡ None
  unfolding settlement_day
  settle-before h = rw (lt-ltb m 240 h)

  pub settle-in : 240 ≤ m → settlement_day w m ≡ next_working w (third_wednesday m)
  unfolding settlement_day
  settle-in h = rw (le-ltb m 240 h)

  pub settle-past : 360 ≤ m → settlement_day w m ≡ None
  settle-past h = settle-in (omega arith) ∙ next-none w (third_wednesday m) (past_end m h)

-- ---- settlement days rise

-- third Wednesdays are at least 28 days apart
pub apart : (m n : ℕ) → 240 ≤ m → third_wednesday m + 28 * n ≤ third_wednesday (m + n)
unfolding third_wednesday
apart m n h = let z : m - 240 + n ≡ m + n - 240 = omega arith in omega (arith, first-rises (m - 240) n, ap first_day z)

november : third_wednesday 358 ≡ 3612
unfolding third_wednesday first_day month_length
november = refl

module _ (w : ℕ → Bool) where
  -- a month with a settlement day is one of the calendar
  pub settles-from : (m d : ℕ) → settlement_day w m ≡ Some d → 240 ≤ m
  settles-from m d e = go (dec_lt m 240)
    where
      go : Dec (m < 240) → 240 ≤ m
      go (yes u) = on-no-day (sym e ∙ settle-before w m u)
      go (no u) = omega arith

  -- D is the first working day from the third Wednesday on
  pub settles-first : (m d : ℕ) → settlement_day w m ≡ Some d → First w (third_wednesday m) (3653 - third_wednesday m) d
  settles-first m d e = first-of w _ _ d (sym (settle-in w m (settles-from m d e)) ∙ e)

  pub settles-below : (m d : ℕ) → settlement_day w m ≡ Some d → d < 3653
  settles-below m d e = let s = settles-first m d e in omega arith

  module _ (accept : accepted w ≡ true) where
    -- D is at most 14 days after the third Wednesday
    pub settles-near : (m d : ℕ) → settlement_day w m ≡ Some d → d ≤ third_wednesday m + 14
    settles-near m d e = let s = settles-first m d e in go s (dec_lt (third_wednesday m + 14) d)
      where
        go : First w (third_wednesday m) (3653 - third_wednesday m) d → Dec (third_wednesday m + 14 < d) → d ≤ third_wednesday m + 14
        go s (yes u) = absurd (accepted-off w accept (third_wednesday m) (omega arith) (λ k a b. s.skips k a (omega arith)))
        go s (no u) = omega arith

    pub settles-rise : (m n d e : ℕ) → m < n → settlement_day w m ≡ Some d → settlement_day w n ≡ Some e → d < e
    settles-rise m n d e h p q =
        let z : m + (n - m) ≡ n = omega arith in
        let s = settles-first n e q in
        omega (arith, settles-near m d p, apart m (n - m) (settles-from m d p), ap third_wednesday z)

    -- each month of the calendar but the last has its D
    pub all-settle : (m : ℕ) → 240 ≤ m → m < 359 → settlement_day w m ≡ None → ⊥
    all-settle m h k e =
        let z : m + (358 - m) ≡ 358 = omega arith in
        let early : third_wednesday m + 15 ≤ 3653 = omega (arith, apart m (358 - m) h, ap third_wednesday z, november) in
        accepted-off w accept (third_wednesday m) early (λ i a b. first-misses w _ _ (sym (settle-in w m h) ∙ e) i a (omega arith))

  -- ---- the last trading day

  pub trades-before : (m d : ℕ) → settlement_day w m ≡ Some d → last_trading_day w m ≡ last_working w d
  unfolding last_trading_day
  trades-before m d e = let z : min d 3653 ≡ d = omega (arith, settles-below m d e) in rw (e, z)

  pub trades-settles : (m l : ℕ) → last_trading_day w m ≡ Some l → (d : ℕ) × (settlement_day w m ≡ Some d)
  unfolding last_trading_day
  trades-settles m l e = go (settlement_day w m) refl e
    where
      go : (a : Option ℕ) → settlement_day w m ≡ a → before_that w a ≡ Some l → (d : ℕ) × (settlement_day w m ≡ Some d)
      go (Some d) p q = (d, p)
      go None p q = on-no-day (sym q)

  -- the working day after the last trading day is D
  pub trades-next : (m l : ℕ) → last_trading_day w m ≡ Some l → settlement_day w m ≡ next_working w (l + 1)
  trades-next m l e =
      let s = trades-settles m l e in
      let d = s.0 in
      let p : settlement_day w m ≡ Some d = s.1 in
      let f = settles-first m d p in
      let b = last_of w d l (sym (trades-before m d p) ∙ e) in
      p ∙ sym (first-is w _ (l + 1) d (omega arith) (omega arith) f.works (λ k x y. b.skips k (omega arith) y))

  -- no two months end on one day
  pub one-ends : accepted w ≡ true → (m n l : ℕ) → last_trading_day w m ≡ Some l → last_trading_day w n ≡ Some l → m ≡ n
  one-ends accept m n l p q = go (dec_lt m n) (dec_lt n m)
    where
      same : settlement_day w m ≡ settlement_day w n
      same = trades-next m l p ∙ sym (trades-next n l q)

      go : Dec (m < n) → Dec (n < m) → m ≡ n
      go (yes u) v = let s = trades-settles m l p in absurd (omega (arith, settles-rise accept m n s.0 s.0 u s.1 (sym same ∙ s.1)))
      go (no u) (yes v) = let s = trades-settles m l p in absurd (omega (arith, settles-rise accept n m s.0 s.0 v (sym same ∙ s.1) s.1))
      go (no u) (no v) = omega arith
