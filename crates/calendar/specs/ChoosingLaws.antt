-- Choosing the months one by one ends in what is listed.
use Rattle.std.specs.Prelude.{◌≡◌, Bool, ◌&&◌, set, replicate}
use Rattle.std.proofs.Math.Path.{refl, sym, ap}
use Rattle.std.proofs.Common.{◌∙◌, add-one, length-append}
use Rattle.std.proofs.Math.Bool.{true, false, not, cond, and-true, and-false}
use Rattle.std.proofs.lemmas.Bool.{false≢true}
use mathlib.Core.List.{List, [], ◌∷◌, ◌++◌, map, append-nil}
use Prim.Native.Nat.{ℕ, zero, suc, ◌+◌, ◌-◌, ◌≤◌, ◌<◌, min}
use Rattle.std.proofs.Math.Decide.{dec_lt}
use native.Mathlib.Omega.{arith}
use Rattle.std.proofs.Math.Dec.{ltb}
use Rattle.std.proofs.Math.ListN.{length}
use Rattle.std.proofs.lemmas.List.{length-map, set_at}
use Rattle.std.proofs.Math.Seq.{append_snoc}
use borrow.Author.Tests.{ltb-true, lt-ltb, le-ltb, le-leb, lt-leb}
use Rattle.lists.specs.Passing.{passing, all, passing-zero, passing-hit, passing-miss, passing-none, passing-ends, count-hit, count-step, count-grows, all_append, all-passing}
use Rattle.lists.specs.Rows.{map-append}
use Rattle.calendar.specs.declared.listing.Chosen.{Chosen}
use Rattle.days.specs.Days.{is_no_day}
use Rattle.months.specs.Months.{is_quarterly, code_of, settlement_day}
use Rattle.months.specs.MonthLaws.{settle-past}
use Rattle.calendar.specs.Listing.{is_after, settles_after, is_candidate, places, earlier, is_listed, settles, listed_months, unknown, listing}
use Rattle.calendar.specs.Choosing.{none_chosen, has_place, placed, considered, answered, filled, chosen_before}

-- a kind with a place left has a place of the six left
pub place-left : (c : Chosen) (quarterly : Bool) → c.quarterly ≤ 4 → c.others ≤ 2 → has_place c quarterly ≡ true → c.quarterly + c.others < 6
place-left c true h k e = omega (arith, ltb-true c.quarterly 4 e)
place-left c false h k e = omega (arith, ltb-true c.others 2 e)

-- two that agree in each field
same : {q q' o o' : ℕ} {k k' : Bool} {c c' : List ℕ} → q ≡ q' → o ≡ o' → k ≡ k' → c ≡ c' → ◌≡◌ {A = Chosen} (record { quarterly = q; others = o; known = k; codes = c }) (record { quarterly = q'; others = o'; known = k'; codes = c' })
same e f g h = rw (e, f, g, h)

-- a number is below k where its smaller with k is
below-min : (k n : ℕ) → ltb (min k n) k ≡ ltb n k
below-min k n = go (dec_lt n k)
  where
    go : Dec (n < k) → ltb (min k n) k ≡ ltb n k
    go (yes u) = lt-ltb (min k n) k (omega arith) ∙ sym (lt-ltb n k u)
    go (no u) = le-ltb (min k n) k (omega arith) ∙ sym (le-ltb n k (omega arith))

-- one more code goes to the first free place
filled_more : (l : List ℕ) (m n : ℕ) → length l ≡ n → n < 6 → set (filled l) n (code_of m) ≡ filled (l ++ (m ∷ []))
filled_more l m n e h =
    let free : 6 - length l ≡ suc (6 - (n + 1)) = omega arith in
    let long : length (l ++ (m ∷ [])) ≡ n + 1 = length-append l (m ∷ []) ∙ ap (λ i. i + 1) e in
    rw (free, long, map-append code_of l (m ∷ []), set_at (map code_of l) 0 (replicate (6 - (n + 1)) 0) (code_of m) n (length-map l code_of ∙ e))
    (sym (append_snoc (map code_of l) (code_of m) (replicate (6 - (n + 1)) 0)))

module _ (w : ℕ → Bool) (t : ℕ) where
  -- ---- counts

  -- as many are listed as their kinds have places for
  pub listed-count : (m : ℕ) → length (passing (is_listed w t) m) ≡ min 4 (earlier w t true m) + min 2 (earlier w t false m)
  unfolding is_listed
  listed-count zero = rw (passing-zero (is_listed w t), passing-zero (is_candidate w t true), passing-zero (is_candidate w t false))
  listed-count (suc m) =
      rw (sym (add-one m), count-step (is_listed w t) m, count-step (is_candidate w t true) m, count-step (is_candidate w t false) m)
      (go (settles_after w t m) (is_quarterly m) (listed-count m) (dec_lt (earlier w t true m) 4) (dec_lt (earlier w t false m) 2))
    where
      go : (a q : Bool) → length (passing (is_listed w t) m) ≡ min 4 (earlier w t true m) + min 2 (earlier w t false m) → Dec (earlier w t true m < 4) → Dec (earlier w t false m < 2) → length (passing (is_listed w t) m) + cond (a && ltb (earlier w t q m) (places q)) 1 0 ≡ min 4 (earlier w t true m + cond (q && a) 1 0) + min 2 (earlier w t false m + cond (not q && a) 1 0)
      go true true ih (yes u) v = rw (lt-ltb (earlier w t true m) 4 u) (omega arith)
      go true true ih (no u) v = rw (le-ltb (earlier w t true m) 4 (omega arith)) (omega arith)
      go true false ih u (yes v) = rw (lt-ltb (earlier w t false m) 2 v) (omega arith)
      go true false ih u (no v) = rw (le-ltb (earlier w t false m) 2 (omega arith)) (omega arith)
      go false true ih u v = omega arith
      go false false ih u v = omega arith

  -- ---- one month more

  module _ (m : ℕ) where
    -- a month of that kind that settles after t, and of the other kind
    candidate : (quarterly : Bool) → is_quarterly m ≡ quarterly → settles_after w t m ≡ true → is_candidate w t quarterly m ≡ true
    candidate true e a = rw (e, a)
    candidate false e a = rw (e, a)

    no-candidate : (quarterly : Bool) → is_quarterly m ≡ quarterly → is_candidate w t (not quarterly) m ≡ false
    no-candidate true e = rw e
    no-candidate false e = rw e

    listed_by : (quarterly : Bool) → is_quarterly m ≡ quarterly → settles_after w t m ≡ true → is_listed w t m ≡ ltb (earlier w t quarterly m) (places quarterly)
    unfolding is_listed
    listed_by quarterly e a = rw (a, e)

    chosen-skip : settles_after w t m ≡ false → chosen_before w t m ≡ chosen_before w t (m + 1)
    unfolding chosen_before is_listed
    chosen-skip e =
        rw (
          passing-miss (is_candidate w t true) m (rw e (and-false (is_quarterly m))),
          passing-miss (is_candidate w t false) m (rw e (and-false (not (is_quarterly m)))),
          passing-miss (is_listed w t) m (rw e),
        )

    -- its own kind has one more before the next month, the other kind as many
    counted : (quarterly : Bool) → is_quarterly m ≡ quarterly → settles_after w t m ≡ true → earlier w t quarterly (m + 1) ≡ earlier w t quarterly m + 1
    counted quarterly e a = count-hit (is_candidate w t quarterly) m (candidate quarterly e a)

    kept : (quarterly : Bool) → is_quarterly m ≡ quarterly → earlier w t (not quarterly) m ≡ earlier w t (not quarterly) (m + 1)
    kept quarterly e = ap length (sym (passing-miss (is_candidate w t (not quarterly)) m (no-candidate quarterly e)))

    chosen-full : (quarterly : Bool) → is_quarterly m ≡ quarterly → settles_after w t m ≡ true → places quarterly ≤ earlier w t quarterly m → chosen_before w t m ≡ chosen_before w t (m + 1)
    unfolding chosen_before
    chosen-full quarterly e a h = go quarterly e a h (sym (passing-miss (is_listed w t) m (listed_by quarterly e a ∙ le-ltb (earlier w t quarterly m) (places quarterly) h)))
      where
        go : (q : Bool) → is_quarterly m ≡ q → settles_after w t m ≡ true → places q ≤ earlier w t q m → passing (is_listed w t) m ≡ passing (is_listed w t) (m + 1) → chosen_before w t m ≡ chosen_before w t (m + 1)
        go true e a h unlisted = same (omega (arith, counted true e a)) (ap (min 2) (kept true e)) (ap (all (settles w)) unlisted) (ap filled unlisted)
        go false e a h unlisted = same (ap (min 4) (kept false e)) (omega (arith, counted false e a)) (ap (all (settles w)) unlisted) (ap filled unlisted)

    all_more : is_listed w t m ≡ true → all (settles w) (passing (is_listed w t) m) && settles w m ≡ all (settles w) (passing (is_listed w t) (m + 1))
    unfolding all
    all_more e = rw (passing-hit (is_listed w t) m e, all_append (settles w) (passing (is_listed w t) m) (m ∷ [])) (ap (λ b. all (settles w) (passing (is_listed w t) m) && b) (sym (and-true (settles w m))))

    codes-more : is_listed w t m ≡ true → min 4 (earlier w t true m) + min 2 (earlier w t false m) < 6 → set (filled (passing (is_listed w t) m)) (min 4 (earlier w t true m) + min 2 (earlier w t false m)) (code_of m) ≡ filled (passing (is_listed w t) (m + 1))
    codes-more e h = filled_more (passing (is_listed w t) m) m (min 4 (earlier w t true m) + min 2 (earlier w t false m)) (listed-count m) h ∙ ap filled (sym (passing-hit (is_listed w t) m e))

    chosen-placed : (quarterly : Bool) → is_quarterly m ≡ quarterly → settles_after w t m ≡ true → earlier w t quarterly m < places quarterly → placed (chosen_before w t m) quarterly (code_of m) (settles w m) ≡ chosen_before w t (m + 1)
    unfolding chosen_before
    chosen-placed quarterly e a h = go quarterly e a h (listed_by quarterly e a ∙ lt-ltb (earlier w t quarterly m) (places quarterly) h)
      where
        go : (q : Bool) → is_quarterly m ≡ q → settles_after w t m ≡ true → earlier w t q m < places q → is_listed w t m ≡ true → placed (chosen_before w t m) q (code_of m) (settles w m) ≡ chosen_before w t (m + 1)
        go true e a h listed = same (omega (arith, counted true e a)) (ap (min 2) (kept true e)) (all_more listed) (codes-more listed (omega arith))
        go false e a h listed = same (ap (min 4) (kept false e)) (omega (arith, counted false e a)) (all_more listed) (codes-more listed (omega arith))

    -- whether a kind has a place left is whether fewer than its places came earlier
    place_is : (quarterly : Bool) → has_place (chosen_before w t m) quarterly ≡ ltb (earlier w t quarterly m) (places quarterly)
    unfolding chosen_before
    place_is true = below-min 4 (earlier w t true m)
    place_is false = below-min 2 (earlier w t false m)

    after_is : 240 ≤ m → settles_after w t m ≡ is_after t (settlement_day w m)
    unfolding settles_after
    after_is h = rw (le-leb 240 m h)

    -- to consider a month of the calendar is to choose up to it
    pub chosen-next : 240 ≤ m → considered (chosen_before w t m) m (settlement_day w m) t ≡ chosen_before w t (m + 1)
    unfolding considered
    chosen-next h = rw (sym (after_is h), place_is (is_quarterly m)) (go (settles_after w t m) refl (is_quarterly m) refl (dec_lt (earlier w t (is_quarterly m) m) (places (is_quarterly m))))
      where
        go : (a : Bool) → settles_after w t m ≡ a → (q : Bool) → is_quarterly m ≡ q → Dec (earlier w t q m < places q) → cond a (cond (ltb (earlier w t q m) (places q)) (placed (chosen_before w t m) q (code_of m) (settles w m)) (chosen_before w t m)) (chosen_before w t m) ≡ chosen_before w t (m + 1)
        go true a q e (yes u) = rw (lt-ltb (earlier w t q m) (places q) u) (chosen-placed q e a u)
        go true a q e (no u) = let k : places q ≤ earlier w t q m = omega arith in rw (le-ltb (earlier w t q m) (places q) k) (chosen-full q e a k)
        go false a q e u = chosen-skip a

  -- ---- the first month, and the end

  before-calendar : (m : ℕ) → m < 240 → settles_after w t m ≡ false
  unfolding settles_after
  before-calendar m h = rw (lt-leb 240 m h)

  pub chosen_none : chosen_before w t 240 ≡ none_chosen
  unfolding chosen_before is_listed all
  chosen_none =
      rw (
        passing-none (is_candidate w t true) 240 (λ m h. rw (before-calendar m h) (and-false (is_quarterly m))),
        passing-none (is_candidate w t false) 240 (λ m h. rw (before-calendar m h) (and-false (not (is_quarterly m)))),
        passing-none (is_listed w t) 240 (λ m h. rw (before-calendar m h)),
      )

  -- where both kinds are full, no later month is listed
  full-ends : (m : ℕ) → 4 ≤ earlier w t true m → 2 ≤ earlier w t false m → (n : ℕ) → m ≤ n → is_listed w t n ≡ false
  unfolding is_listed
  full-ends m h k n l = go (settles_after w t n) (is_quarterly n)
    where
      z : m + (n - m) ≡ n
      z = omega arith

      go : (a q : Bool) → a && ltb (earlier w t q n) (places q) ≡ false
      go true true = le-ltb (earlier w t true n) 4 (omega (arith, count-grows (is_candidate w t true) m (n - m), ap (earlier w t true) z))
      go true false = le-ltb (earlier w t false n) 2 (omega (arith, count-grows (is_candidate w t false) m (n - m), ap (earlier w t false) z))
      go false q = refl

  pub full-listing : (m : ℕ) → m ≤ 1200 → (chosen_before w t m).quarterly + (chosen_before w t m).others ≡ 6 → answered (chosen_before w t m) ≡ listing w t
  unfolding chosen_before listing
  full-listing m h e =
      let z : m + (1200 - m) ≡ 1200 = omega arith in
      let listed : passing (is_listed w t) 1200 ≡ passing (is_listed w t) m = ap (passing (is_listed w t)) (sym z) ∙ passing-ends (is_listed w t) m (1200 - m) (full-ends m (omega arith) (omega arith)) in
      let none : 6 - length (passing (is_listed w t) m) ≡ 0 = omega (arith, listed-count m) in
      rw (listed, none, append-nil (map code_of (passing (is_listed w t) m)))

  -- past the calendar's end every month settles after t
  past-settles : (m : ℕ) → 360 ≤ m → settles_after w t m ≡ true
  past-settles m h = after_is m (omega arith) ∙ ap (is_after t) (settle-past w m h)

  pub past-candidate : (m : ℕ) → 360 ≤ m → (quarterly : Bool) → is_quarterly m ≡ quarterly → is_candidate w t quarterly m ≡ true
  past-candidate m h quarterly e = candidate m quarterly e (past-settles m h)

  -- a listed month past the end
  past-unknown : (m : ℕ) → 360 ≤ m → m < 1200 → is_listed w t m ≡ true → listing w t ≡ unknown
  unfolding listing
  past-unknown m h k e = go (all (settles w) (listed_months w t)) refl
    where
      go : (a : Bool) → all (settles w) (listed_months w t) ≡ a → cond a (record { known = true; codes = map code_of (listed_months w t) }) unknown ≡ unknown
      go true a = absurd (false≢true (ap (λ d. not (is_no_day d)) (sym (settle-past w m h)) ∙ all-passing (settles w) (is_listed w t) 1200 m a k e))
      go false a = refl

  pub short-listing : ((chosen_before w t 360).quarterly + (chosen_before w t 360).others ≡ 6 → ⊥) → listing w t ≡ unknown
  unfolding chosen_before
  short-listing h = go (dec_lt (earlier w t true 360) 4) (dec_lt (earlier w t false 360) 2)
    where
      -- January and February 2030 are no quarterly months
      march : earlier w t true 362 ≡ earlier w t true 360
      march = ap length (passing-miss (is_candidate w t true) 361 refl ∙ passing-miss (is_candidate w t true) 360 refl)

      go : Dec (earlier w t true 360 < 4) → Dec (earlier w t false 360 < 2) → listing w t ≡ unknown
      go (yes u) v = past-unknown 362 (omega arith) (omega arith) (listed_by 362 true refl (past-settles 362 (omega arith)) ∙ lt-ltb (earlier w t true 362) 4 (omega (arith, march)))
      go (no u) (yes v) = past-unknown 360 (omega arith) (omega arith) (listed_by 360 false refl (past-settles 360 (omega arith)) ∙ lt-ltb (earlier w t false 360) 2 v)
      go (no u) (no v) = absurd (h (omega arith))

  -- never more than the places of each kind
  pub chosen-most : (m : ℕ) → ((chosen_before w t m).quarterly ≤ 4) × ((chosen_before w t m).others ≤ 2)
  unfolding chosen_before
  chosen-most m = omega arith

  -- ---- as one computation: n months considered, from January 2020 on

  unfoldable pub chosen_after : ℕ → Chosen
  chosen_after zero = none_chosen
  chosen_after (suc n) = considered (chosen_after n) (240 + n) (settlement_day w (240 + n)) t

  pub chosen-after : (n : ℕ) → chosen_after n ≡ chosen_before w t (240 + n)
  unfolding chosen_after
  chosen-after zero = sym chosen_none
  chosen-after (suc n) = let z : 240 + n + 1 ≡ 240 + suc n = omega arith in rw (chosen-after n) (chosen-next (240 + n) (omega arith) ∙ ap (chosen_before w t) z)

  pub computed-listing : (n : ℕ) → n ≤ 960 → (chosen_after n).quarterly + (chosen_after n).others ≡ 6 → answered (chosen_after n) ≡ listing w t
  computed-listing n h e = rw (chosen-after n) (full-listing (240 + n) (omega arith) (rw (chosen-after n) at e))
