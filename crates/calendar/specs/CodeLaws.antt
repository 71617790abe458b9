-- The codes of a listing: their months, that none comes twice, and which stay from a day to the next that is opened.
use Rattle.std.specs.Prelude.{◌≡◌, Bool, not, ◌||◌, ltb, Option, Some, None}
use Rattle.std.proofs.Math.Path.{refl, sym}
use Rattle.std.proofs.Common.{◌∙◌, ap, subst}
use Rattle.std.proofs.Math.Bool.{true, false, cond}
use mathlib.Core.List.{List, [], ◌∷◌, ◌++◌, map, append-nil}
use Prim.Native.Nat.{ℕ, zero, suc, ◌+◌, ◌-◌, ◌≤◌, ◌<◌}
use Rattle.std.proofs.Math.Decide.{dec_lt}
use native.Mathlib.Omega.{arith}
use borrow.Author.Tests.{ltb-false, eqb-true, eqb-false, lt-ltb, le-ltb, le-leb, eq-eqb}
use Rattle.std.proofs.Math.Dec.{eqb}
use Rattle.std.proofs.Math.ListN.{length}
use Rattle.std.proofs.lemmas.List.{length-map}
use Rattle.lists.specs.Has.{has, Distinct}
use Rattle.lists.specs.HasLaws.{by_test, clash, or_right, or-skip, has-append, has_one}
use Rattle.lists.specs.Passing.{passing, all}
use Rattle.lists.specs.Rows.{map-append}
use Rattle.days.specs.Days.{rising, rising_after, next_working, accepted, is_on, is_no_day}
use Rattle.days.specs.DayLaws.{rising_step, rising-below, First, Last, first-of, last_of}
use Rattle.months.specs.Months.{code_of, settlement_day, last_trading_day, of_month, last_trading_of}
use Rattle.calendar.specs.Listing.{settles_after, is_listed, settles, listed_months, unknown, listing}
use Rattle.months.specs.MonthLaws.{codes-rise, month-of, settles-from, settles-first, settles-below, settles-rise, trades-before}
use Rattle.calendar.specs.ListingLaws.{listed-after, listed-trades, stays-listed, six-listed, listed-rise, known-settles}

-- ---- a rising list has no number twice
distinct-after : (e : ℕ) (l : List ℕ) → rising_after e l ≡ true → Distinct l
distinct-after e [] r = tt
distinct-after e (f ∷ l) r =
    let p = rising_step e f l r in
    (rising-below f f l (omega arith) p.1, distinct-after f l p.1)

rising-distinct : (l : List ℕ) → rising l ≡ true → Distinct l
unfolding rising
rising-distinct [] r = tt
rising-distinct (e ∷ l) r = (rising-below e e l (omega arith) r, distinct-after e l r)

-- ---- codes of the numbers that pass a test
module _ (p : ℕ → Bool) where
  code-passing : (c n : ℕ) → has c (map code_of (passing p n)) ≡ true → (m : ℕ) × ((m < n) × ((code_of m ≡ c) × (p m ≡ true)))
  unfolding passing has
  code-passing c zero h = clash h refl
  code-passing c (suc n) h = go (p n) refl (code-passing c n) h
    where
      go : (t : Bool) → p n ≡ t → (has c (map code_of (passing p n)) ≡ true → (m : ℕ) × ((m < n) × ((code_of m ≡ c) × (p m ≡ true))))
          → has c (map code_of (passing p n ++ cond t (n ∷ []) [])) ≡ true → (m : ℕ) × ((m < suc n) × ((code_of m ≡ c) × (p m ≡ true)))
      go true e ih h = by_test (has c (map code_of (passing p n)))
          (λ q. let r = ih q in (r.0, (omega arith, r.1.1)))
          (λ q. (n, (omega arith, (sym (eqb-true c (code_of n) (last q)), e))))
        where
          last : has c (map code_of (passing p n)) ≡ false → eqb c (code_of n) ≡ true
          last q =
              sym (has_one c (code_of n))
              ∙ or-skip (has c (map code_of (passing p n))) (has c (code_of n ∷ [])) q
              (sym (has-append c (map code_of (passing p n)) (code_of n ∷ [])) ∙ rw (map-append code_of (passing p n) (n ∷ [])) at h)
      go false e ih h = let r = ih (rw (append-nil (passing p n)) at h) in (r.0, (omega arith, r.1.1))

  passing-code : (m n : ℕ) → m < n → p m ≡ true → has (code_of m) (map code_of (passing p n)) ≡ true
  unfolding passing has
  passing-code m zero h e = absurd (omega arith)
  passing-code m (suc n) h e =
      rw (
        map-append code_of (passing p n) (cond (p n) (n ∷ []) []),
        has-append (code_of m) (map code_of (passing p n)) (map code_of (cond (p n) (n ∷ []) [])),
      )
      (go (dec_lt m n) (passing-code m n))
    where
      go : Dec (m < n) → (m < n → p m ≡ true → has (code_of m) (map code_of (passing p n)) ≡ true)
          → (has (code_of m) (map code_of (passing p n)) || has (code_of m) (map code_of (cond (p n) (n ∷ []) []))) ≡ true
      go (yes u) ih = rw (ih u e)
      go (no u) ih =
          let z : n ≡ m = omega arith in
          or_right (has (code_of m) (map code_of (passing p n))) (has (code_of m) (map code_of (cond (p n) (n ∷ []) [])))
          (rw (z, e, eq-eqb (code_of m) (code_of m) refl))

-- ---- a code's last trading day is before day k
abbrev pub is_before : ℕ → Option ℕ → Bool
is_before k (Some l) = ltb l k
is_before k None = false

abbrev pub is_past : (ℕ → Bool) → ℕ → ℕ → Bool
is_past w k c = is_before k (last_trading_of w c)

-- none is before day 0
pub past-none : (w : ℕ → Bool) (c : ℕ) → is_past w 0 c ≡ false
past-none w c = go (last_trading_of w c)
  where
    go : (a : Option ℕ) → is_before 0 a ≡ false
    go (Some l) = le-ltb l 0 (omega arith)
    go None = refl

-- and what is not past on a day was not past earlier
pub past-later : (w : ℕ → Bool) (c k n : ℕ) → k ≤ n → is_past w n c ≡ false → is_past w k c ≡ false
past-later w c k n h = go (last_trading_of w c)
  where
    go : (a : Option ℕ) → is_before n a ≡ false → is_before k a ≡ false
    go (Some l) e = le-ltb l k (omega (arith, ltb-false l n e))
    go None e = refl

-- ---- the codes of a listing that is known
pub code_below : (m : ℕ) → m < 1200 → code_of m < 10000
unfolding code_of
code_below m h = omega arith

-- a listed code's month, with its settlement day
pub record Runs (w : ℕ → Bool) (t c : ℕ) : Type 0 where
  pub month : ℕ
  pub below : month < 1200
  pub code : code_of month ≡ c
  pub listed : is_listed w t month ≡ true
  pub day : ℕ
  pub settled : settlement_day w month ≡ Some day

module _ (w : ℕ → Bool) where
  last-trading : (m : ℕ) → m < 1200 → last_trading_of w (code_of m) ≡ last_trading_day w m
  last-trading m h = ap (of_month (last_trading_day w)) (month-of m h)

  module _ (t : ℕ) (known : (listing w t).known ≡ true) where
    codes-are : (listing w t).codes ≡ map code_of (listed_months w t)
    unfolding listing
    codes-are = go (all (settles w) (listed_months w t)) known
      where
        go : (a : Bool) → (cond a (record { known = true; codes = map code_of (listed_months w t) }) unknown).known ≡ true
            → (cond a (record { known = true; codes = map code_of (listed_months w t) }) unknown).codes ≡ map code_of (listed_months w t)
        go true e = refl
        go false e = clash e refl

    pub codes-distinct : Distinct (listing w t).codes
    codes-distinct = rw codes-are (rising-distinct (map code_of (listed_months w t)) (listed-rise w t))

    pub codes-length : length (listing w t).codes ≡ 6
    codes-length = rw codes-are (length-map (listed_months w t) code_of ∙ six-listed w t)

    pub code_runs : (c : ℕ) → has c (listing w t).codes ≡ true → Runs w t c
    code_runs c h =
        let f = code-passing (is_listed w t) c 1200 (rw codes-are at h) in
        go f.0 f.1.0 f.1.1.0 f.1.1.1 (settlement_day w f.0) refl (known-settles w t f.0 known f.1.0 f.1.1.1)
      where
        go : (m : ℕ) → m < 1200 → code_of m ≡ c → is_listed w t m ≡ true
            → (a : Option ℕ) → settlement_day w m ≡ a → not (is_no_day a) ≡ true → Runs w t c
        go m b e l (Some d) p q = record { month = m; below = b; code = e; listed = l; day = d; settled = p }
        go m b e l None p q = clash q refl

    runs-code : (m : ℕ) → m < 1200 → is_listed w t m ≡ true → has (code_of m) (listing w t).codes ≡ true
    runs-code m h e = rw codes-are (passing-code (is_listed w t) m 1200 h e)

    -- a listed code has its last trading day, not before t
    pub code-lasts : w t ≡ true → (c : ℕ) → has c (listing w t).codes ≡ true → (l : ℕ) × ((last_trading_of w c ≡ Some l) × (t ≤ l))
    code-lasts works c h =
        let r = code_runs c h in
        let l = listed-trades w t r.month r.day works r.listed r.settled in
        (l.0, (ap (last_trading_of w) (sym r.code) ∙ last-trading r.month r.below ∙ l.1.0, l.1.1))

    -- what is listed settles after t, and on a working day
    pub settles-later : (d : ℕ) × ((t < d) × ((d < 3653) × (w d ≡ true)))
    unfolding has
    settles-later = go (listing w t).codes refl codes-length
      where
        go : (l : List ℕ) → (listing w t).codes ≡ l → length l ≡ 6 → (d : ℕ) × ((t < d) × ((d < 3653) × (w d ≡ true)))
        go [] e h = absurd (omega arith)
        go (c ∷ l) e h =
            let r = code_runs c (ap (has c) e ∙ rw (eq-eqb c c refl)) in
            let after = listed-after w t r.month r.day r.listed r.settled in
            (r.day, (after, (settles-below w r.month r.day r.settled, (settles-first w r.month r.day r.settled).works)))

  -- ---- from a day to the next that is opened
  -- a listed month that does not end on t is listed on the next working day
  month-stays : (t u m d l : ℕ) → First w (t + 1) (3653 - (t + 1)) u → is_listed w t m ≡ true → settlement_day w m ≡ Some d
      → Last w d l → t ≤ l → (t ≡ l → ⊥) → is_listed w u m ≡ true
  unfolding settles_after
  month-stays t u m d l f e p b le ne = go (dec_lt l u)
    where
      go : Dec (l < u) → is_listed w u m ≡ true
      go (yes q) = clash b.works (f.skips l (omega arith) q)
      go (no q) = stays-listed w t u m (omega arith) e (rw (p, le-leb 240 m (settles-from w m d p)) (lt-ltb u d (omega arith)))

  pub code_stays : (t u c : ℕ) → (listing w t).known ≡ true → (listing w u).known ≡ true → w t ≡ true → next_working w (t + 1) ≡ Some u
      → has c (listing w t).codes ≡ true → is_on t (last_trading_of w c) ≡ false → has c (listing w u).codes ≡ true
  code_stays t u c k k' works next h goes_on =
      let r = code_runs t k c h in
      let m = r.month in
      let d = r.day in
      let s = listed-trades w t m d works r.listed r.settled in
      let ends : last_trading_of w c ≡ Some s.0 = ap (last_trading_of w) (sym r.code) ∙ last-trading m r.below ∙ s.1.0 in
      let f = first-of w (3653 - (t + 1)) (t + 1) u next in
      let b = last_of w d s.0 (sym (trades-before w m d r.settled) ∙ s.1.0) in
      let not-now = eqb-false t s.0 (rw ends at goes_on) in
      subst (λ x. has x (listing w u).codes ≡ true) r.code
      (runs-code u k' m r.below (month-stays t u m d s.0 f r.listed r.settled b s.1.1 not-now))

  -- ---- of the codes listed on a day only the first can end on it: each other settles after the first, and that after the day
  pub only-first : accepted w ≡ true → (t c k : ℕ) (rest : List ℕ) → (listing w t).known ≡ true → w t ≡ true
      → (listing w t).codes ≡ c ∷ rest → has k rest ≡ true → is_on t (last_trading_of w k) ≡ false
  unfolding has rising
  only-first accept t c k rest known works e h = by_test (is_on t (last_trading_of w k)) (λ q. absurd (ends q)) (λ q. q)
    where
      first : Runs w t c
      first = code_runs t known c (ap (has c) e ∙ rw (eq-eqb c c refl))

      other : Runs w t k
      other = code_runs t known k (ap (has k) e ∙ or_right (eqb k c) (has k rest) h)

      later : c < k
      later = go (dec_lt c k)
        where
          go : Dec (c < k) → c < k
          go (yes u) = u
          go (no u) = clash h (rising-below k c rest (omega arith) (ap rising (sym e ∙ codes-are t known) ∙ listed-rise w t))

      months : first.month < other.month
      months = go (dec_lt first.month other.month) (dec_lt other.month first.month)
        where
          go : Dec (first.month < other.month) → Dec (other.month < first.month) → first.month < other.month
          go (yes u) v = u
          go (no u) (yes v) = absurd (omega (arith, later, first.code, other.code, codes-rise other.month first.month v))
          go (no u) (no v) =
              let z : first.month ≡ other.month = omega arith in
              absurd (omega (arith, later, first.code, other.code, ap code_of z))

      ends : is_on t (last_trading_of w k) ≡ true → ⊥
      ends q =
          let m = other.month in
          let s = listed-trades w t m other.day works other.listed other.settled in
          let on : last_trading_of w k ≡ Some s.0 = ap (last_trading_of w) (sym other.code) ∙ last-trading m other.below ∙ s.1.0 in
          let z : t ≡ s.0 = eqb-true t s.0 (rw on at q) in
          let b = last_of w other.day s.0 (sym (trades-before w m other.day other.settled) ∙ s.1.0) in
          let f = settles-first w first.month first.day first.settled in
          let after = listed-after w t first.month first.day first.listed first.settled in
          let before = settles-rise w accept first.month m first.day other.day months first.settled other.settled in
          clash f.works (b.skips first.day (omega arith) before)
