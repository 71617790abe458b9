-- What follows for listings: six codes that rise, what is listed stays until it settles, and what has settled is never listed again.
use Rattle.std.specs.Prelude.{◌≡◌, Bool, leb, length, Option, Some, None}
use Rattle.std.proofs.Math.Path.{refl}
use Rattle.std.proofs.Common.{sym, ◌∙◌, arith}
use Rattle.std.proofs.Math.Bool.{true, false, not, cond, and-eq-true_iff}
use Rattle.std.proofs.lemmas.Bool.{false≢true}
use mathlib.Core.List.{List, [], ◌∷◌, ◌++◌, map, append-nil}
use Prim.Native.Nat.{ℕ, zero, suc, ◌≤◌, ◌<◌}
use Rattle.std.proofs.Math.Dec.{ltb}
use borrow.Author.Tests.{ltb-true, lt-ltb}
use Rattle.lists.specs.Passing.{passing, all, count_past, count-more, all_append, all-passing, one-fails}
use Rattle.lists.specs.Rows.{map-append}
use Rattle.days.specs.Days.{rising, rising_after, is_no_day}
use Rattle.days.specs.DayLaws.{last-finds}
use Rattle.months.specs.Months.{is_quarterly, code_of, settlement_day, last_trading_day}
use Rattle.months.specs.MonthLaws.{codes-rise, trades-before}
use Rattle.calendar.specs.Listing.{is_after, settles_after, is_candidate, places, earlier, is_listed, settles, listed_months, Listing, unknown, listing, known_codes}
use Rattle.calendar.specs.ChoosingLaws.{listed-count, past-candidate}

-- ---- codes are answered where they are known
pub codes-known : (l : Listing) (codes : List ℕ) → known_codes l ≡ Some codes → (l.known ≡ true) × (l.codes ≡ codes)
codes-known l codes e = go l.known refl e
  where
    go : (t : Bool) → l.known ≡ t → cond t (Some l.codes) None ≡ Some codes → (l.known ≡ true) × (l.codes ≡ codes)
    go true p q = (p, cc)
    go false p q = let z : ◌≡◌ {A = ℕ} 0 1 = cc in absurd (omega arith)

pub codes-unknown : (l : Listing) → known_codes l ≡ None → l.known ≡ false
codes-unknown l e = go l.known refl e
  where
    go : (t : Bool) → l.known ≡ t → cond t (Some l.codes) None ≡ None → l.known ≡ false
    go true p q = let z : ◌≡◌ {A = ℕ} 0 1 = cc in absurd (omega arith)
    go false p q = p

-- ---- codes of months that pass a test, in rising order

rising-after-append : (e x : ℕ) (l : List ℕ) → rising_after e l ≡ true → e < x → all (λ y. ltb y x) l ≡ true → rising_after e (l ++ (x ∷ [])) ≡ true
unfolding rising_after all
rising-after-append e x [] r h a = rw (lt-ltb e x h)
rising-after-append e x (f ∷ l) r h a =
    let r' = (and-eq-true_iff (ltb e f) (rising_after f l)).0 r in
    let a' = (and-eq-true_iff (ltb f x) (all (λ y. ltb y x) l)).0 a in
    rw r'.0 (rising-after-append f x l r'.1 (ltb-true f x a'.0) a'.1)

rising-append : (x : ℕ) (l : List ℕ) → rising l ≡ true → all (λ y. ltb y x) l ≡ true → rising (l ++ (x ∷ [])) ≡ true
unfolding rising rising_after all
rising-append x [] r a = refl
rising-append x (f ∷ l) r a =
    let a' = (and-eq-true_iff (ltb f x) (all (λ y. ltb y x) l)).0 a in
    rising-after-append f x l r (ltb-true f x a'.0) a'.1

module _ (p : ℕ → Bool) where
  codes-below : (n m : ℕ) → n ≤ m → all (λ y. ltb y (code_of m)) (map code_of (passing p n)) ≡ true
  unfolding passing all
  codes-below zero m h = refl
  codes-below (suc n) m h = go (p n) (codes-below n m (omega arith))
    where
      go : (t : Bool) → all (λ y. ltb y (code_of m)) (map code_of (passing p n)) ≡ true → all (λ y. ltb y (code_of m)) (map code_of (passing p n ++ cond t (n ∷ []) [])) ≡ true
      go true ih = rw (map-append code_of (passing p n) (n ∷ []), all_append (λ y. ltb y (code_of m)) (map code_of (passing p n)) (code_of n ∷ []), ih, lt-ltb (code_of n) (code_of m) (codes-rise n m h))
      go false ih = rw (append-nil (passing p n)) ih

  codes-rising : (n : ℕ) → rising (map code_of (passing p n)) ≡ true
  unfolding passing rising
  codes-rising zero = refl
  codes-rising (suc n) = go (p n) (codes-rising n)
    where
      go : (t : Bool) → rising (map code_of (passing p n)) ≡ true → rising (map code_of (passing p n ++ cond t (n ∷ []) [])) ≡ true
      go true ih = rw (map-append code_of (passing p n) (n ∷ [])) (rising-append (code_of n) (map code_of (passing p n)) ih (codes-below n n (omega arith)))
      go false ih = rw (append-nil (passing p n)) ih

module _ (w : ℕ → Bool) where
  -- ---- D and t

  after-day : (t m d : ℕ) → settles_after w t m ≡ true → settlement_day w m ≡ Some d → t < d
  unfolding settles_after
  after-day t m d e p = ltb-true t d (rw p at ((and-eq-true_iff (leb 240 m) (is_after t (settlement_day w m))).0 e).1)

  -- a listed month settles after t
  pub listed-after : (t m d : ℕ) → is_listed w t m ≡ true → settlement_day w m ≡ Some d → t < d
  unfolding is_listed
  listed-after t m d e p = after-day t m d ((and-eq-true_iff (settles_after w t m) _).0 e).0 p

  -- what has settled by t is not listed on t
  pub settled-never : (t m d : ℕ) → settlement_day w m ≡ Some d → d ≤ t → is_listed w t m ≡ false
  settled-never t m d p h = go (is_listed w t m) refl
    where
      go : (a : Bool) → is_listed w t m ≡ a → a ≡ false
      go true e = absurd (omega (arith, listed-after t m d e p))
      go false e = refl

  -- on a working day a listed month can still be traded
  pub listed-trades : (t m d : ℕ) → w t ≡ true → is_listed w t m ≡ true → settlement_day w m ≡ Some d → (l : ℕ) × ((last_trading_day w m ≡ Some l) × (t ≤ l))
  listed-trades t m d works e p =
      let found = last-finds w d t (listed-after t m d e p) works in
      (found.0, (trades-before w m d p ∙ found.1.0, found.1.1))

  -- ---- from one day to a later one

  later-after : (t u : ℕ) → t ≤ u → (a : Option ℕ) → is_after u a ≡ true → is_after t a ≡ true
  later-after t u h (Some d) e = lt-ltb t d (omega (arith, ltb-true u d e))
  later-after t u h None e = refl

  later-settles : (t u m : ℕ) → t ≤ u → settles_after w u m ≡ true → settles_after w t m ≡ true
  unfolding settles_after
  later-settles t u m h e = let both = (and-eq-true_iff (leb 240 m) (is_after u (settlement_day w m))).0 e in rw both.0 (later-after t u h (settlement_day w m) both.1)

  later-candidate : (t u : ℕ) → t ≤ u → (quarterly : Bool) (m : ℕ) → is_candidate w u quarterly m ≡ true → is_candidate w t quarterly m ≡ true
  later-candidate t u h true m e = let both = (and-eq-true_iff (is_quarterly m) (settles_after w u m)).0 e in rw both.0 (later-settles t u m h both.1)
  later-candidate t u h false m e = let both = (and-eq-true_iff (not (is_quarterly m)) (settles_after w u m)).0 e in rw both.0 (later-settles t u m h both.1)

  -- who is listed stays listed until it settles
  pub stays-listed : (t u m : ℕ) → t ≤ u → is_listed w t m ≡ true → settles_after w u m ≡ true → is_listed w u m ≡ true
  unfolding is_listed
  stays-listed t u m h e a =
      let both = (and-eq-true_iff (settles_after w t m) (ltb (earlier w t (is_quarterly m) m) (places (is_quarterly m)))).0 e in
      let fewer = count-more (is_candidate w u (is_quarterly m)) (is_candidate w t (is_quarterly m)) m (later-candidate t u h (is_quarterly m)) in
      rw a (lt-ltb (earlier w u (is_quarterly m) m) (places (is_quarterly m)) (omega (arith, ltb-true (earlier w t (is_quarterly m) m) (places (is_quarterly m)) both.1)))

  -- ---- six codes that rise

  pub six-listed : (t : ℕ) → length (listed_months w t) ≡ 6
  six-listed t =
      omega (
        arith,
        listed-count w t 1200,
        count_past (is_candidate w t true) 362 365 (omega arith) (past-candidate w t 362 (omega arith) true refl),
        count_past (is_candidate w t true) 365 368 (omega arith) (past-candidate w t 365 (omega arith) true refl),
        count_past (is_candidate w t true) 368 371 (omega arith) (past-candidate w t 368 (omega arith) true refl),
        count_past (is_candidate w t true) 371 1200 (omega arith) (past-candidate w t 371 (omega arith) true refl),
        count_past (is_candidate w t false) 360 361 (omega arith) (past-candidate w t 360 (omega arith) false refl),
        count_past (is_candidate w t false) 361 1200 (omega arith) (past-candidate w t 361 (omega arith) false refl),
      )

  pub listed-rise : (t : ℕ) → rising (map code_of (listed_months w t)) ≡ true
  listed-rise t = codes-rising (is_listed w t) 1200

  -- where the listing is known, each listed month has its D
  pub known-settles : (t m : ℕ) → (listing w t).known ≡ true → m < 1200 → is_listed w t m ≡ true → settles w m ≡ true
  unfolding listing
  known-settles t m e h k = go (all (settles w) (listed_months w t)) refl e
    where
      go : (a : Bool) → all (settles w) (listed_months w t) ≡ a → (cond a (record { known = true; codes = map code_of (listed_months w t) }) unknown).known ≡ true → settles w m ≡ true
      go true a q = all-passing (settles w) (is_listed w t) 1200 m a h k
      go false a q = absurd (false≢true q)

  -- where it is not, one of them has none
  pub unknown-settles : (t : ℕ) → (listing w t).known ≡ false → (m : ℕ) × ((is_listed w t m ≡ true) × (settlement_day w m ≡ None))
  unfolding listing
  unknown-settles t e = go (all (settles w) (listed_months w t)) refl e
    where
      no-day : (a : Option ℕ) → not (is_no_day a) ≡ false → a ≡ None
      no-day (Some d) p = absurd (false≢true (sym p))
      no-day None p = refl

      go : (a : Bool) → all (settles w) (listed_months w t) ≡ a → (cond a (record { known = true; codes = map code_of (listed_months w t) }) unknown).known ≡ false
          → (m : ℕ) × ((is_listed w t m ≡ true) × (settlement_day w m ≡ None))
      go true a q = absurd (false≢true (sym q))
      go false a q =
          let f = one-fails (settles w) (is_listed w t) 1200 a in
          (f.0, (f.1.1.0, no-day (settlement_day w f.0) f.1.1.1))
