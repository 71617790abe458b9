-- What follows for days: the steps by which the code walks, what a search finds, and breaks of days off.
use Rattle.std.specs.Prelude.{◌≡◌, Bool, ◌&&◌, ◌||◌, not, List, [], ◌∷◌, length, get_or, take, drop, eqb, ltb, Option, Some, None}
use Rattle.std.proofs.Math.Path.{refl, ap, subst}
use Rattle.std.proofs.Common.{sym, ap₂, ◌∙◌, add-one, drop_of_length-le, drop-cons}
use Rattle.std.proofs.Math.Bool.{true, false, cond, and-eq-true_iff, and-false, or-false}
use Rattle.std.proofs.lemmas.Bool.{false≢true}
use Prim.Native.Nat.{ℕ, zero, suc, ◌+◌, ◌-◌, ◌≤◌, ◌<◌}
use Rattle.std.proofs.Math.Numerals.{unary_clauses}
use Rattle.std.proofs.Math.Decide.{dec_lt}
use native.Mathlib.Omega.{arith}
use borrow.Author.Tests.{ltb-true, lt-ltb, le-ltb, ne_eqb}
use Rattle.lists.specs.Has.{has}
use Rattle.lists.specs.HasLaws.{eqb-flip}
use Rattle.lists.specs.Keyed.{has-nowhere}
use Rattle.days.specs.Days.{days, is_exception, LaterFrom, rising, rising_after, first_working, next_working, last_working, is_no_day, is_long_break, no_long_break, accepted}

-- ---- whether a list rises, walked from the front: what is left decides

pub rising-empty : (e : List ℕ) → length e ≡ 0 → rising e ≡ true
unfolding rising
rising-empty [] h = refl
rising-empty (x ∷ e) h = absurd (omega arith)

pub rising-start : (e : List ℕ) → (length e ≡ 0 → ⊥) → rising e ≡ rising_after (get_or e 0 0) (drop 1 e)
unfolding rising
rising-start [] h = absurd (h refl)
rising-start (x ∷ e) h = refl

module _ (last : ℕ) (e : List ℕ) (i : ℕ) where
  pub rising-more : i < length e → last < get_or e i 0 → rising_after last (drop i e) ≡ rising_after (get_or e i 0) (drop (i + 1) e)
  unfolding rising_after
  rising-more h k = rw (drop-cons e i 0 h, lt-ltb last (get_or e i 0) k, add-one)

  pub rising-stop : i < length e → get_or e i 0 ≤ last → rising_after last (drop i e) ≡ false
  unfolding rising_after
  rising-stop h k = rw (drop-cons e i 0 h, le-ltb last (get_or e i 0) k)

  pub rising-end : length e ≤ i → rising_after last (drop i e) ≡ true
  unfolding rising_after
  rising-end h = rw (drop_of_length-le e h)

-- ---- a list that rises: nothing below its first, nothing above its last

-- what rises past e begins above e, and its rest rises past its first
pub rising_step : (e f : ℕ) (l : List ℕ) → rising_after e (f ∷ l) ≡ true → (e < f) × (rising_after f l ≡ true)
unfolding rising_after
rising_step e f l r = let p = (and-eq-true_iff (ltb e f) (rising_after f l)).0 r in (ltb-true e f p.0, p.1)

pub rising-below : (k e : ℕ) (l : List ℕ) → k ≤ e → rising_after e l ≡ true → has k l ≡ false
unfolding has
rising-below k e [] h r = refl
rising-below k e (f ∷ l) h r =
    let p = rising_step e f l r in
    rw (ne_eqb k f (omega arith)) (rising-below k f l (omega arith) p.1)

rising-above : (k e : ℕ) (l : List ℕ) → get_or (e ∷ l) (length l) 0 < k → rising_after e l ≡ true → (e < k) × (has k (e ∷ l) ≡ false)
unfolding has
rising-above k e [] h r = (h, rw (ne_eqb k e (omega arith)))
rising-above k e (f ∷ l) h r =
    let p = rising_step e f l r in
    let q = rising-above k f l h p.1 in
    (omega arith, rw (ne_eqb k e (omega arith)) q.1)

rising-rest : (e : ℕ) (l : List ℕ) → rising_after e l ≡ true → rising l ≡ true
unfolding rising
rising-rest e [] r = refl
rising-rest e (f ∷ l) r = (rising_step e f l r).1

-- ---- a list that rises, told by its neighbours, and its order

rising_after-each : (x : ℕ) (l : List ℕ) → ((k : ℕ) → k < length l → ltb (get_or (x ∷ l) k 0) (get_or l k 0) ≡ true) → rising_after x l ≡ true
unfolding rising_after
rising_after-each x [] h = refl
rising_after-each x (f ∷ l) h = rw (h 0 (omega arith)) (rising_after-each f l (λ k a. h (suc k) (omega arith)))

rising_after-broken : (x : ℕ) (l : List ℕ) (k : ℕ) → k < length l → ltb (get_or (x ∷ l) k 0) (get_or l k 0) ≡ false → rising_after x l ≡ false
unfolding rising_after
rising_after-broken x [] k h e = absurd (omega arith)
rising_after-broken x (f ∷ l) zero h e = rw e
rising_after-broken x (f ∷ l) (suc k) h e = rw (rising_after-broken f l k (omega arith) e) (and-false (ltb x f))

-- each is below the next
pub rising-each : (e : List ℕ) → ((k : ℕ) → k + 1 < length e → ltb (get_or e k 0) (get_or e (k + 1) 0) ≡ true) → rising e ≡ true
unfolding rising
rising-each [] h = refl
rising-each (x ∷ l) h = rising_after-each x l (λ k a. rw add-one at (h k (omega arith)))

-- one is not below the next
pub rising-broken : (e : List ℕ) (k : ℕ) → k + 1 < length e → ltb (get_or e k 0) (get_or e (k + 1) 0) ≡ false → rising e ≡ false
unfolding rising
rising-broken [] k h q = absurd (omega arith)
rising-broken (x ∷ l) k h q = rising_after-broken x l k (omega arith) (rw add-one at q)

rising-least : (x : ℕ) (l : List ℕ) → rising_after x l ≡ true → (j : ℕ) → j < length (x ∷ l) → x ≤ get_or (x ∷ l) j 0
rising-least x l r zero h = omega arith
rising-least x [] r (suc j) h = absurd (omega arith)
rising-least x (f ∷ l) r (suc j) h = let p = rising_step x f l r in omega (arith, rising-least f l p.1 j (omega arith))

pub rising-sorted : (e : List ℕ) → rising e ≡ true → (i j : ℕ) → i ≤ j → j < length e → get_or e i 0 ≤ get_or e j 0
unfolding rising
rising-sorted [] r i j a b = absurd (omega arith)
rising-sorted (x ∷ l) r zero j a b = rising-least x l r j b
rising-sorted (x ∷ l) r (suc i) zero a b = absurd (omega arith)
rising-sorted (x ∷ l) r (suc i) (suc j) a b = rising-sorted l (rising-rest x l r) i j (omega arith) (omega arith)

rising_after-take : (x n : ℕ) (l : List ℕ) → rising_after x l ≡ true → rising_after x (take n l) ≡ true
unfolding rising_after
rising_after-take x zero l r = refl
rising_after-take x (suc n) [] r = refl
rising_after-take x (suc n) (f ∷ l) r =
    let p = (and-eq-true_iff (ltb x f) (rising_after f l)).0 r in rw (p.0, rising_after-take f n l p.1)

-- the first ones of a list that rises rise
pub rising-take : (n : ℕ) (e : List ℕ) → rising e ≡ true → rising (take n e) ≡ true
unfolding rising
rising-take zero e r = refl
rising-take (suc n) [] r = refl
rising-take (suc n) (x ∷ l) r = rising_after-take x n l r

-- ---- an exception, looked up where they rise

pub exception-has : (e : List ℕ) (d : ℕ) → is_exception e d ≡ has d e
unfolding is_exception has
exception-has [] d = refl
exception-has (x ∷ e) d = ap₂ ◌||◌ (eqb-flip x d) (exception-has e d)

-- those that are later than the day can be left out
pub exception-near : (e : List ℕ) (d n : ℕ) → LaterFrom e d n → is_exception (take n e) d ≡ is_exception e d
unfolding is_exception
exception-near [] d zero h = refl
exception-near [] d (suc n) h = refl
exception-near (x ∷ e) d zero h =
    sym (exception-has (x ∷ e) d ∙ has-nowhere (x ∷ e) d (λ k a q. omega (arith, h k (omega arith) a)))
exception-near (x ∷ e) d (suc n) h =
    ap (λ t. eqb x d || t) (exception-near e d n (λ k a b. h (suc k) (omega arith) (omega arith)))

pub exception-none : (e : List ℕ) (d : ℕ) → length e ≡ 0 → is_exception e d ≡ false
unfolding is_exception
exception-none [] d h = refl
exception-none (x ∷ e) d h = absurd (omega arith)

-- no day past the last is one
pub exception-past : (e : List ℕ) (d : ℕ) → (length e ≡ 0 → ⊥) → rising e ≡ true → get_or e (length e - 1) 0 < d → is_exception e d ≡ false
unfolding rising
exception-past [] d n r h = absurd (n refl)
exception-past (x ∷ e) d n r h = exception-has (x ∷ e) d ∙ (rising-above d x e (simp unary_clauses at h) r).1

module _ (e : List ℕ) (i d : ℕ) (h : i < length e) where
  -- one that is smaller than the day is not the last, where the last is not smaller
  pub exception-next : get_or e i 0 < d → d ≤ get_or e (length e - 1) 0 → i + 1 < length e
  exception-next k l = go (dec_lt (i + 1) (length e))
    where
      go : Dec (i + 1 < length e) → i + 1 < length e
      go (yes u) = u
      go (no u) = let z : i ≡ length e - 1 = omega arith in absurd (omega (arith, ap (λ n. get_or e n 0) z))

  -- and what is left without it decides
  pub exception-miss : get_or e i 0 < d → is_exception (drop i e) d ≡ is_exception (drop (i + 1) e) d
  unfolding is_exception
  exception-miss k = rw (drop-cons e i 0 h, ne_eqb (get_or e i 0) d (omega arith), add-one)

module _ (e : List ℕ) (i : ℕ) (h : i < length e) (r : rising (drop i e) ≡ true) where
  rises-from : rising_after (get_or e i 0) (drop (suc i) e) ≡ true
  unfolding rising
  rises-from = subst (λ l. rising l ≡ true) (drop-cons e i 0 h) r

  pub rises-on : rising (drop (i + 1) e) ≡ true
  rises-on = rw add-one (rising-rest (get_or e i 0) (drop (suc i) e) rises-from)

  -- the first that is not smaller than the day decides
  pub exception-first : (d : ℕ) → d ≤ get_or e i 0 → is_exception (drop i e) d ≡ eqb (get_or e i 0) d
  unfolding has
  exception-first d k =
      exception-has (drop i e) d
      ∙ rw (drop-cons e i 0 h, rising-below d (get_or e i 0) (drop (suc i) e) k rises-from, eqb-flip d (get_or e i 0)) (or-false (eqb (get_or e i 0) d))

-- ---- searches, day by day

module _ (w : ℕ → Bool) (d : ℕ) where
  one_more : d < days → days - d ≡ suc (days - (d + 1))
  one_more h = omega arith

  pub next-hit : d < days → w d ≡ true → next_working w d ≡ Some d
  unfolding first_working
  next-hit h e = rw (one_more h, e)

  pub next-miss : d < days → w d ≡ false → next_working w d ≡ next_working w (d + 1)
  unfolding first_working
  next-miss h e = rw (one_more h, e)

  pub next-none : days ≤ d → next_working w d ≡ None
  unfolding first_working
  next-none h = let z : days - d ≡ 0 = omega arith in rw z

  one_less : 0 < d → d ≡ suc (d - 1)
  one_less h = omega arith

  pub last-hit : 0 < d → w (d - 1) ≡ true → last_working w d ≡ Some (d - 1)
  unfolding last_working
  last-hit h e = ap (last_working w) (one_less h) ∙ rw e

  pub last-miss : 0 < d → w (d - 1) ≡ false → last_working w d ≡ last_working w (d - 1)
  unfolding last_working
  last-miss h e = ap (last_working w) (one_less h) ∙ rw e

  pub last_none : d ≤ 0 → last_working w d ≡ None
  unfolding last_working
  last_none h = let z : d ≡ 0 = omega arith in rw z

-- ---- what a search finds

-- a day and no day differ
pub on-no-day : {A : Type 0} {d : ℕ} → Some d ≡ None → A
on-no-day e = let z : ◌≡◌ {A = ℕ} 0 1 = cc in absurd (omega arith)

-- a day that a search finds: a working day of the n days from d on, with none before it
pub record First (w : ℕ → Bool) (d n f : ℕ) : Type 0 where
  pub works : w f ≡ true
  pub from : d ≤ f
  pub below : f < d + n
  pub skips : (k : ℕ) → d ≤ k → k < f → w k ≡ false

-- and one that a search backwards finds
pub record Last (w : ℕ → Bool) (d f : ℕ) : Type 0 where
  pub works : w f ≡ true
  pub below : f < d
  pub skips : (k : ℕ) → f < k → k < d → w k ≡ false

-- what holds of each day past d, and of d, holds of each from d on
each_from : {P : ℕ → Type 0} (d f : ℕ) → P d → ((k : ℕ) → d + 1 ≤ k → k < f → P k) → (k : ℕ) → d ≤ k → k < f → P k
each_from {P} d f p h k a b = go (dec_lt d k)
  where
    go : Dec (d < k) → P k
    go (yes u) = h k (omega arith) b
    go (no u) = let z : k ≡ d = omega arith in rw z p

module _ (w : ℕ → Bool) where
  pub first-of : (n d f : ℕ) → first_working w d n ≡ Some f → First w d n f
  unfolding first_working
  first-of zero d f e = on-no-day (sym e)
  first-of (suc n) d f e = go (w d) refl (first-of n (d + 1) f) e
    where
      go : (t : Bool) → w d ≡ t → (first_working w (d + 1) n ≡ Some f → First w (d + 1) n f) → cond t (Some d) (first_working w (d + 1) n) ≡ Some f → First w d (suc n) f
      go true p ih q =
          let z : d ≡ f = cc in
          record { works = rw (← z) p; from = omega arith; below = omega arith; skips = λ k a b. absurd (omega arith) }
      go false p ih q =
          let r = ih q in
          record { works = r.works; from = omega arith; below = omega arith; skips = each_from d f p r.skips }

  pub first-misses : (n d : ℕ) → first_working w d n ≡ None → (k : ℕ) → d ≤ k → k < d + n → w k ≡ false
  unfolding first_working
  first-misses zero d e = λ k a b. absurd (omega arith)
  first-misses (suc n) d e = go (w d) refl (first-misses n (d + 1)) e
    where
      go : (t : Bool) → w d ≡ t → (first_working w (d + 1) n ≡ None → (k : ℕ) → d + 1 ≤ k → k < d + 1 + n → w k ≡ false) → cond t (Some d) (first_working w (d + 1) n) ≡ None → (k : ℕ) → d ≤ k → k < d + suc n → w k ≡ false
      go true p ih q = on-no-day q
      go false p ih q = each_from d (d + suc n) p (λ k a b. ih q k a (omega arith))

  -- a working day with none before it is what the search finds
  pub first-is : (n d f : ℕ) → d ≤ f → f < d + n → w f ≡ true → ((k : ℕ) → d ≤ k → k < f → w k ≡ false) → first_working w d n ≡ Some f
  unfolding first_working
  first-is zero d f a b p h = absurd (omega arith)
  first-is (suc n) d f a b p h = go (dec_lt d f) (first-is n (d + 1) f)
    where
      go : Dec (d < f) → (d + 1 ≤ f → f < d + 1 + n → w f ≡ true → ((k : ℕ) → d + 1 ≤ k → k < f → w k ≡ false) → first_working w (d + 1) n ≡ Some f) → cond (w d) (Some d) (first_working w (d + 1) n) ≡ Some f
      go (yes u) ih = rw (h d (omega arith) u) (ih (omega arith) (omega arith) p (λ k x y. h k (omega arith) y))
      go (no u) ih = let z : d ≡ f = omega arith in rw (z, p)

  pub last_of : (d f : ℕ) → last_working w d ≡ Some f → Last w d f
  unfolding last_working
  last_of zero f e = on-no-day (sym e)
  last_of (suc d) f e = go (w d) refl (last_of d f) e
    where
      go : (t : Bool) → w d ≡ t → (last_working w d ≡ Some f → Last w d f) → cond t (Some d) (last_working w d) ≡ Some f → Last w (suc d) f
      go true p ih q =
          let z : d ≡ f = cc in
          record { works = rw (← z) p; below = omega arith; skips = λ k a b. absurd (omega arith) }
      go false p ih q =
          let r = ih q in
          record { works = r.works; below = omega arith; skips = λ k a b. up_to k a (dec_lt k d) (r.skips k a) b }
        where
          up_to : (k : ℕ) → f < k → Dec (k < d) → (k < d → w k ≡ false) → k < suc d → w k ≡ false
          up_to k a (yes u) h b = h u
          up_to k a (no u) h b = let z : k ≡ d = omega arith in rw z p

  -- where there is a working day before d, the last one is found, and not before it
  pub last-finds : (d k : ℕ) → k < d → w k ≡ true → (l : ℕ) × ((last_working w d ≡ Some l) × (k ≤ l))
  unfolding last_working
  last-finds zero k h e = absurd (omega arith)
  last-finds (suc d) k h e = go (w d) refl (dec_lt k d) (last-finds d k)
    where
      go : (t : Bool) → w d ≡ t → Dec (k < d) → (k < d → w k ≡ true → (l : ℕ) × ((last_working w d ≡ Some l) × (k ≤ l))) → (l : ℕ) × ((cond t (Some d) (last_working w d) ≡ Some l) × (k ≤ l))
      go true p u ih = (d, (refl, omega arith))
      go false p (yes u) ih = ih u e
      go false p (no u) ih = let z : k ≡ d = omega arith in absurd (false≢true (sym p ∙ rw (← z) e))

-- ---- breaks: days off that run

-- how many days off run up to d
unfoldable pub off_run : (ℕ → Bool) → ℕ → ℕ
off_run w zero = 0
off_run w (suc d) = cond (w d) 0 (off_run w d + 1)

module _ (w : ℕ → Bool) where
  pub run_on : (d : ℕ) → w d ≡ true → off_run w (d + 1) ≡ 0
  unfolding off_run
  run_on d e = rw (add-one, e)

  pub run-off : (d : ℕ) → w d ≡ false → off_run w (d + 1) ≡ off_run w d + 1
  unfolding off_run
  run-off d e = rw (add-one d, e)

  pub run-most : (d : ℕ) → off_run w d ≤ d
  unfolding off_run
  run-most zero = omega arith
  run-most (suc d) = go (w d) (run-most d)
    where
      go : (t : Bool) → off_run w d ≤ d → cond t 0 (off_run w d + 1) ≤ suc d
      go true h = omega arith
      go false h = omega arith

  -- the days of the run are off
  run-is-off : (d k : ℕ) → d ≤ k + off_run w d → k < d → w k ≡ false
  unfolding off_run
  run-is-off zero k h u = absurd (omega arith)
  run-is-off (suc d) k h u = go (w d) refl (dec_lt k d) h (run-is-off d k)
    where
      go : (t : Bool) → w d ≡ t → Dec (k < d) → suc d ≤ k + cond t 0 (off_run w d + 1) → (d ≤ k + off_run w d → k < d → w k ≡ false) → w k ≡ false
      go true p v q ih = absurd (omega arith)
      go false p (yes v) q ih = ih (omega arith) v
      go false p (no v) q ih = let z : k ≡ d = omega arith in rw z p

  -- n days off from d on are in the run that ends with them
  all-off-run : (n d : ℕ) → ((k : ℕ) → d ≤ k → k < d + n → w k ≡ false) → n ≤ off_run w (d + n)
  all-off-run zero d h = omega arith
  all-off-run (suc n) d h =
      let z : d + suc n ≡ d + n + 1 = omega arith in
      let ih = all-off-run n d (λ k a b. h k a (omega arith)) in
      omega (arith, ap (off_run w) z, run-off (d + n) (h (d + n) (omega arith) (omega arith)))

  pub all-off-none : (n d : ℕ) → ((k : ℕ) → d ≤ k → k < d + n → w k ≡ false) → first_working w d n ≡ None
  unfolding first_working
  all-off-none zero d h = refl
  all-off-none (suc n) d h = rw (h d (omega arith) (omega arith)) (all-off-none n (d + 1) (λ k a b. h k (omega arith) (omega arith)))

  -- a run of 15 is a long break, and a long break is such a run
  pub run-break : (d : ℕ) → 15 ≤ off_run w (d + 15) → is_long_break w d ≡ true
  run-break d h = ap is_no_day (all-off-none 15 d (λ k a b. run-is-off (d + 15) k (omega arith) (omega arith)))

  pub break-run : (d : ℕ) → off_run w (d + 15) ≤ 14 → is_long_break w d ≡ false
  break-run d h = go (first_working w d 15) refl
    where
      go : (a : Option ℕ) → first_working w d 15 ≡ a → is_no_day a ≡ false
      go (Some f) e = refl
      go None e = absurd (omega (arith, all-off-run 15 d (first-misses w 15 d e)))

  pub no-break-more : (d : ℕ) → is_long_break w d ≡ false → no_long_break w (d + 1) ≡ no_long_break w d
  unfolding no_long_break
  no-break-more d e = rw (add-one, e)

  -- one long break is enough
  pub no-break-stop : (d n : ℕ) → d < n → is_long_break w d ≡ true → no_long_break w n ≡ false
  unfolding no_long_break
  no-break-stop d zero h e = absurd (omega arith)
  no-break-stop d (suc n) h e = go (dec_lt d n) (no-break-stop d n)
    where
      either : (t s : Bool) → s ≡ false → t && s ≡ false
      either true s p = p
      either false s p = refl

      go : Dec (d < n) → (d < n → is_long_break w d ≡ true → no_long_break w n ≡ false) → not (is_long_break w n) && no_long_break w n ≡ false
      go (yes u) ih = either (not (is_long_break w n)) (no_long_break w n) (ih u e)
      go (no u) ih = let z : n ≡ d = omega arith in rw (z, e)

  -- a day more in the walk over the calendar: the run that ends with it is short, or the calendar is refused
  pub short-run : (d : ℕ) → off_run w (d + 1) ≤ 14 → no_long_break w (d - 14) ≡ true → no_long_break w (d + 1 - 14) ≡ true
  short-run d h e = go (dec_lt d 14)
    where
      go : Dec (d < 14) → no_long_break w (d + 1 - 14) ≡ true
      go (yes u) = let z : d + 1 - 14 ≡ d - 14 = omega arith in rw z e
      go (no u) =
          let z : d + 1 - 14 ≡ d - 14 + 1 = omega arith in
          let y : d - 14 + 15 ≡ d + 1 = omega arith in
          rw z (no-break-more (d - 14) (break-run (d - 14) (omega (arith, ap (off_run w) y))) ∙ e)

  pub long-run : (d : ℕ) → d < days → 14 < off_run w (d + 1) → accepted w ≡ false
  long-run d h k =
      let m = run-most (d + 1) in
      let z : d + 1 - 15 + 15 ≡ d + 1 = omega arith in
      no-break-stop (d + 1 - 15) (days - 14) (omega arith) (run-break (d + 1 - 15) (omega (arith, ap (off_run w) z)))

  -- in an accepted calendar no 15 days off run
  no-break-at : (d n : ℕ) → d < n → no_long_break w n ≡ true → is_long_break w d ≡ false
  no-break-at d n h e = go (is_long_break w d) refl
    where
      go : (t : Bool) → is_long_break w d ≡ t → t ≡ false
      go true p = let q = no-break-stop d n h p in sym e ∙ q
      go false p = refl

  accepted-run : (d : ℕ) → accepted w ≡ true → d ≤ days → off_run w d ≤ 14
  accepted-run d a h = go (dec_lt 14 (off_run w d))
    where
      go : Dec (14 < off_run w d) → off_run w d ≤ 14
      go (yes u) =
          let m = run-most d in
          let z : d - 15 + 15 ≡ d = omega arith in
          let b = run-break (d - 15) (omega (arith, ap (off_run w) z)) in
          let c = no-break-at (d - 15) (days - 14) (omega arith) a in
          absurd (false≢true (sym c ∙ b))
      go (no u) = omega arith

  pub accepted-off : accepted w ≡ true → (d : ℕ) → d + 15 ≤ days → ((k : ℕ) → d ≤ k → k < d + 15 → w k ≡ false) → ⊥
  accepted-off a d h off = omega (arith, all-off-run 15 d off, accepted-run (d + 15) a h)
