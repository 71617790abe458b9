-- What the parts of a ticket are answered where the whole passes, and when a split is safe.
use Rattle.std.specs.Prelude.{◌≡◌, refl, ◌⊎◌, Bool, true, false, not, cond, ◌&&◌, ◌||◌, List, [], ◌∷◌, map, ℕ, zero, suc, ◌+◌, ◌≤◌, ◌<◌, eqb, leb, ltb, ℤ, pos, neg_ℤ, nat_abs, ◌+ℤ◌, get_or, take, drop, ◌≤ℤ◌}
use Rattle.std.proofs.Common.{sym, ◌∙◌, subst, inl, inr, le_refl, le_trans, arith}
use Rattle.std.proofs.Math.Path.{ap, fun_ext}
use Rattle.std.proofs.lemmas.Bool.{false≢true}
use borrow.Author.Tests.{eqb-true, eq-eqb, ltb-true, ltb-false, le-ltb, le-leb, not-true}
use Rattle.std.proofs.Math.Dec.{leb-zero}
use Rattle.std.proofs.Math.IntN.{+ℤ_idr}
use Rattle.std.proofs.lemmas.List.{length-map}
use Rattle.lists.specs.HasLaws.{by_test, cond_same}
use Rattle.whole.specs.Order.{≤ℤ-trans}
use Rattle.whole.specs.Parts.{parts₁, parts₂, parts₃, ring, zarith}
use Rattle.lists.specs.Passing.{all}
use Rattle.days.specs.Days.{rising}
use Rattle.folding.specs.FoldLaws.{unfolded-folded}
use Rattle.fields.specs.Fields as quantity
use Rattle.fields.specs.Fields.{kinds, ceilings}
use Rattle.ranges.specs.Ranges.{all_within}
use Rattle.ranges.specs.RangeLaws.{within-ends}
use Rattle.tallies.specs.Day.{clock}
use Rattle.records.specs.Records.{Entry}
use Rattle.positions.specs.Deals.{flat, dealt}
use Rattle.positions.specs.Beyond.{is_beyond}
use Rattle.positions.specs.declared.Position.{Position}
use Rattle.totals.specs.Totals.{total}
use Rattle.totals.proofs.TotalLaws.{total-smaller}
use Rattle.holdings.specs.Limits.{totals_of, is_over}
use Rattle.holdings.specs.LimitLaws.{Allowed, not-over-allowed, over-not-risen, over-not-within}
use Rattle.model.specs.Book.{Book, margins_of}
use Rattle.model.specs.Calls.{Trade, trade, call_of}
use Rattle.model.specs.Effects.{lots_for, traded, after}
use Rattle.model.specs.Refusals.{needs, first_of, in_hours, side_totals, ranged, tests, refusal}
use Rattle.model.specs.Bounds.{total_in, limit_in}
use Rattle.model.proofs.StepLaws.{Passed, passed_first, needed, accepted-by}
use Rattle.model.specs.RefusalLaws.{accepted-called}
use Rattle.model.proofs.FrameLaws.{dealt-none}
use Rattle.model.proofs.TradeLaws.{side-is}
use Rattle.model.specs.Promises.{side_of}
use Rattle.model.specs.Entries.{trades, written}
use Rattle.model.proofs.RangeLaws.{ranged-tells}
use Rattle.model.specs.Tickets.{Split, whole, first, second, position_in, Offered, AsWritten, second_step, has_room_for_both, second_refusal, WhatPartsMeet, OneSided, SafeFor, SafeSplit, SafeAgain}
use Rattle.model.proofs.TicketLaws.{positions-alike, same_end}

-- ---- a net on its way from x by y to z
abbrev Between : ℤ → ℤ → ℤ → Type 0
Between x y z = ((x ≤ℤ y) × (y ≤ℤ z)) ⊎ ((z ≤ℤ y) × (y ≤ℤ x))

-- it is nowhere further from zero than at both ends
between-nearer : (x y z : ℤ) → Between x y z → (nat_abs y ≤ nat_abs x) ⊎ (nat_abs y ≤ nat_abs z)
between-nearer x y z w = by_test (ltb (nat_abs x) (nat_abs y)) (λ e. inr (go w (ltb-true _ _ e))) (λ e. inl (ltb-false _ _ e))
  where
    up : x ≤ℤ y → y ≤ℤ z → nat_abs x < nat_abs y → nat_abs y ≤ nat_abs z
    up = parts₃ x y z (λ a b c. simp (a.is, b.is, c.is, ring) (omega zarith))

    down : z ≤ℤ y → y ≤ℤ x → nat_abs x < nat_abs y → nat_abs y ≤ nat_abs z
    down = parts₃ x y z (λ a b c. simp (a.is, b.is, c.is, ring) (omega zarith))

    go : Between x y z → nat_abs x < nat_abs y → nat_abs y ≤ nat_abs z
    go (inl h) = up h.0 h.1
    go (inr h) = down h.0 h.1

-- further on, on the same side of zero
further-above : (x y : ℤ) → pos 0 ≤ℤ x → x ≤ℤ y → nat_abs x ≤ nat_abs y
further-above x y = parts₂ x y (λ a b. simp (a.is, b.is, ring) (omega zarith))

further-below : (x y : ℤ) → x ≤ℤ pos 0 → y ≤ℤ x → nat_abs x ≤ nat_abs y
further-below x y = parts₂ x y (λ a b. simp (a.is, b.is, ring) (omega zarith))

-- where it stays on one side of zero, it comes nearer to zero from the middle to the end, or goes away from zero up to the middle
one-sided : (x y z : ℤ) → Between x y z → OneSided x z → (nat_abs z ≤ nat_abs y) ⊎ (nat_abs x ≤ nat_abs y)
one-sided x y z (inl w) (inl s) = inr (further-above x y s.0 w.0)
one-sided x y z (inl w) (inr s) = inl (further-below z y s.1 w.1)
one-sided x y z (inr w) (inl s) = inl (further-above z y s.1 w.0)
one-sided x y z (inr w) (inr s) = inr (further-below x y s.0 w.1)

-- and the middle is on that side
still-one-sided : (x y z : ℤ) → Between x y z → OneSided x z → OneSided y z
still-one-sided x y z (inl w) (inl s) = inl (≤ℤ-trans s.0 w.0, s.1)
still-one-sided x y z (inl w) (inr s) = inr (≤ℤ-trans w.1 s.1, s.1)
still-one-sided x y z (inr w) (inl s) = inl (≤ℤ-trans s.1 w.0, s.1)
still-one-sided x y z (inr w) (inr s) = inr (≤ℤ-trans w.1 s.0, s.1)

-- both parts' lots are of one sign
lots-between : (s : Split) (n : ℕ) (x : ℤ) → Between x (x +ℤ lots_for (first s) n) (x +ℤ lots_for (whole s) n)
lots-between s n x = go (eqb n s.buyer) (eqb n s.seller) s.first_lots s.second_lots
  where
    up : (m k : ℕ) → (x ≤ℤ (x +ℤ pos m)) × ((x +ℤ pos m) ≤ℤ (x +ℤ pos (m + k)))
    up m k = parts₁ x (λ a. simp (a.is, ring) (omega zarith))

    down : (m k : ℕ) → ((x +ℤ neg_ℤ (pos (m + k))) ≤ℤ (x +ℤ neg_ℤ (pos m))) × ((x +ℤ neg_ℤ (pos m)) ≤ℤ x)
    down m k = parts₁ x (λ a. simp (a.is, ring) (omega zarith))

    go : (buys sells : Bool) (m k : ℕ)
        → Between x (x +ℤ cond buys (pos m) (cond sells (neg_ℤ (pos m)) (pos 0))) (x +ℤ cond buys (pos (m + k)) (cond sells (neg_ℤ (pos (m + k))) (pos 0)))
    go true sells m k = inl (up m k)
    go false true m k = inr (down m k)
    go false false m k = inl (up 0 0)

-- ---- totals: no higher where the contract's net is no further from zero
module _ (s : Split) (b : Book) (n : ℕ) where
  -- the account's positions with so many lots dealt
  abbrev with_lots : ℤ → ℕ → Position
  with_lots l c = cond (eqb c s.code) (dealt (position_in b n c) l s.rate) (position_in b n c)

  abbrev total_with : ℤ → ℤ
  total_with l = total (map (with_lots l) b.contracts.codes) (margins_of b)

  abbrev net_with : ℤ → ℤ
  net_with l = (position_in b n s.code).net +ℤ l

  own-net : (l : ℤ) → (with_lots l s.code).net ≡ net_with l
  own-net l = rw (eq-eqb s.code s.code refl)

  net-nearer : (l k : ℤ) → nat_abs (net_with l) ≤ nat_abs (net_with k) → (c : ℕ) → nat_abs (with_lots l c).net ≤ nat_abs (with_lots k c).net
  net-nearer l k h c =
      by_test (eqb c s.code)
      (λ d. rw (d, eqb-true c s.code d) h)
      (λ d. rw d (le_refl (nat_abs (position_in b n c).net)))

  total-nearer : (l k : ℤ) → nat_abs (net_with l) ≤ nat_abs (net_with k) → total_with l ≤ℤ total_with k
  total-nearer l k h =
      let codes = b.contracts.codes in
      total-smaller (map (with_lots l) codes) (map (with_lots k) codes) (margins_of b)
      (length-map codes (with_lots l) ∙ sym (length-map codes (with_lots k))) (go codes)
    where
      go : (cs : List ℕ) (i : ℕ) → nat_abs (get_or (map (with_lots l) cs) i flat).net ≤ nat_abs (get_or (map (with_lots k) cs) i flat).net
      go [] i = le_refl 0
      go (c ∷ cs) zero = net-nearer l k h c
      go (c ∷ cs) (suc i) = go cs i

  before-is : total_with (pos 0) ≡ total_in b n
  before-is =
      ap (λ p. total (map p b.contracts.codes) (margins_of b))
      (fun_ext λ c. cond_same (eqb c s.code) (dealt-none (position_in b n c) s.rate))

  -- the net on its way, and the whole's and the first part's totals with it
  way : Between (net_with (pos 0)) (net_with (lots_for (first s) n)) (net_with (lots_for (whole s) n))
  way = subst (λ x. Between x (net_with (lots_for (first s) n)) (net_with (lots_for (whole s) n))) (sym (+ℤ_idr (position_in b n s.code).net))
      (lots-between s n (position_in b n s.code).net)

  -- where the whole is not over the limit, the first part is not
  first-not-over : is_over (side_of b (traded b (whole s)) n) ≡ false → is_over (side_of b (traded b (first s)) n) ≡ false
  first-not-over passes =
      go (between-nearer _ _ _ way) (not-over-allowed (side_of b (traded b (whole s)) n) passes)
    where
      l : ℤ
      l = lots_for (first s) n

      go : (nat_abs (net_with l) ≤ nat_abs (net_with (pos 0))) ⊎ (nat_abs (net_with l) ≤ nat_abs (net_with (lots_for (whole s) n)))
          → Allowed (side_of b (traded b (whole s)) n) → is_over (side_of b (traded b (first s)) n) ≡ false
      go (inl h) a = over-not-risen _ (subst (λ z. total_with l ≤ℤ z) before-is (total-nearer l (pos 0) h))
      go (inr h) (inl a) = over-not-within _ (≤ℤ-trans (total-nearer l (lots_for (whole s) n) h) a)
      go (inr h) (inr a) = over-not-risen _ (≤ℤ-trans (total-nearer l (lots_for (whole s) n) h) a)

  -- nor does its net go beyond 20,000 lots
  first-not-beyond : is_beyond (position_in b n s.code) ≡ false → is_beyond (position_in (traded b (whole s)) n s.code) ≡ false
      → is_beyond (position_in (traded b (first s)) n s.code) ≡ false
  first-not-beyond p q =
      let near = go (between-nearer x (net_with l) (net_with k) (lots-between s n x)) (ltb-false _ _ p) (subst Near (own-net k) (ltb-false _ _ q)) in
      le-ltb 20000 _ (subst Near (sym (own-net l)) near)
    where
      Near : ℤ → Type 0
      Near z = nat_abs z ≤ 20000

      x : ℤ
      x = (position_in b n s.code).net

      l : ℤ
      l = lots_for (first s) n

      k : ℤ
      k = lots_for (whole s) n

      go : (nat_abs (net_with l) ≤ nat_abs x) ⊎ (nat_abs (net_with l) ≤ nat_abs (net_with k)) → Near x → Near (net_with k) → Near (net_with l)
      go (inl h) a c = le_trans h a
      go (inr h) a c = le_trans h c

  -- the second part ends where the whole does
  second_is : side_totals (traded b (first s)) (second s) n ≡ second_step s b n
  unfolding totals_of
  second_is =
      ap (λ p. record {
        before = total_in (traded b (first s)) n;
        after = total (map (p n) b.contracts.codes) (margins_of b);
        limit = limit_in b n;
      })
      (sym (positions-alike s b))

  second-not-beyond : is_beyond (position_in (traded b (whole s)) n s.code) ≡ false
      → is_beyond (position_in (traded (traded b (first s)) (second s)) n s.code) ≡ false
  second-not-beyond q = ap (λ p. is_beyond (p n s.code)) (sym (positions-alike s b)) ∙ q

-- ---- what the parts are answered
-- a trade between known sides (3, 8, 5, 5, 11) in hours and in order is left with the tests from 16 on
pub trade-left : (b : Book) (e : Entry) (t : Trade) → call_of e ≡ trade t → ranged e ≡ 0 → Passed (take 5 (tests b (trade t)))
    → in_hours t.time ≡ true → leb b.today.clock t.time ≡ true → refusal b e ≡ first_of (drop 7 (tests b (trade t)))
unfolding first_of refusal
trade-left b e t says range p hours order = rw (says, range, p.0, p.1.0, p.1.1.0, p.1.1.1.0, p.1.1.1.1.0, hours, order)

-- no number but 16 and 14 is left for the second part
second-left : (room buyer seller : Bool)
    → first_of (needs room 16 ∷ 0 ∷ 0 ∷ 0 ∷ 0 ∷ needs (not buyer) 14 ∷ needs (not seller) 14 ∷ []) ≡ cond room (cond (buyer || seller) 14 0) 16
unfolding first_of
second-left true true seller = refl
second-left true false true = refl
second-left true false false = refl
second-left false buyer seller = refl

module _ (s : Split) (b : Book) (e f g : Entry) (o : Offered s b e f g) where
  -- what the whole has passed: between known sides, and from 16 on
  passed : Passed (tests b (trade (whole s)))
  passed = subst (λ c. Passed (tests b c)) o.tickets.wholes (accepted-by b e o.whole-passes).passed

  known : Passed (take 5 (tests b (trade (whole s))))
  known = passed_first 5 (tests b (trade (whole s))) passed

  late : Passed (drop 7 (tests b (trade (whole s))))
  late = passed.1.1.1.1.1.1.1

  buyer-not-beyond : is_beyond (position_in (traded b (whole s)) s.buyer s.code) ≡ false
  buyer-not-beyond = not-true _ (needed 13 tt late.1.1.1.0)

  seller-not-beyond : is_beyond (position_in (traded b (whole s)) s.seller s.code) ≡ false
  seller-not-beyond = not-true _ (needed 13 tt late.1.1.1.1.0)

  buyer-not-over : is_over (side_of b (traded b (whole s)) s.buyer) ≡ false
  unfolding totals_of
  buyer-not-over = not-true _ (needed 14 tt late.1.1.1.1.1.0)

  seller-not-over : is_over (side_of b (traded b (whole s)) s.seller) ≡ false
  unfolding totals_of
  seller-not-over = not-true _ (needed 14 tt late.1.1.1.1.1.1.0)

  first_passes : refusal b f ≡ 0
  unfolding first_of
  first_passes =
      trade-left b f (first s) o.tickets.firsts o.ranges.0 known o.in_order.hours.0 o.in_order.clock
      ∙ rw (
        late.0,
        late.1.0,
        late.1.1.0,
        first-not-beyond s b s.buyer o.not_beyond.0 buyer-not-beyond,
        first-not-beyond s b s.seller o.not_beyond.1 seller-not-beyond,
        side-is b (first s) s.buyer,
        first-not-over s b s.buyer buyer-not-over,
        side-is b (first s) s.seller,
        first-not-over s b s.seller seller-not-over,
      )

  second-answered : refusal (traded b (first s)) g ≡ second_refusal s b
  second-answered =
      trade-left (traded b (first s)) g (second s) o.tickets.seconds o.ranges.1 known o.in_order.hours.1 o.in_order.order
      ∙ rw (
        late.1.0,
        late.1.1.0,
        second-not-beyond s b s.buyer buyer-not-beyond,
        second-not-beyond s b s.seller seller-not-beyond,
        second_is s b s.buyer,
        second_is s b s.seller,
      )
      (second-left (has_room_for_both b) (is_over (second_step s b s.buyer)) (is_over (second_step s b s.seller)))

pub what-parts-meet : WhatPartsMeet
unfolding after
what-parts-meet s b e f g o =
    let passes = first_passes s b e f g o in
    record { first_passes = passes; second-answered = rw (accepted-called b f passes o.tickets.firsts) (second-answered s b e f g o) }

-- ---- when a split is safe
module _ (s : Split) (b : Book) (n : ℕ) where
  -- on one side of zero the second part lowers the total, or the first does not lower it and the whole does not lift it beyond both
  one-sided-not-over : is_over (side_of b (traded b (whole s)) n) ≡ false
      → OneSided (net_with s b n (pos 0)) (net_with s b n (lots_for (whole s) n)) → is_over (second_step s b n) ≡ false
  one-sided-not-over passes w =
      go (one-sided _ _ _ (way s b n) w) (not-over-allowed (side_of b (traded b (whole s)) n) passes)
    where
      l : ℤ
      l = lots_for (first s) n

      k : ℤ
      k = lots_for (whole s) n

      go : (nat_abs (net_with s b n k) ≤ nat_abs (net_with s b n l)) ⊎ (nat_abs (net_with s b n (pos 0)) ≤ nat_abs (net_with s b n l))
          → Allowed (side_of b (traded b (whole s)) n) → is_over (second_step s b n) ≡ false
      go (inl h) a = over-not-risen _ (total-nearer s b n k l h)
      go (inr h) (inl a) = over-not-within _ a
      go (inr h) (inr a) = over-not-risen _ (≤ℤ-trans a (subst (λ z. z ≤ℤ total_with s b n l) (before-is s b n) (total-nearer s b n (pos 0) l h)))

  safe-not-over : is_over (side_of b (traded b (whole s)) n) ≡ false → SafeFor s b n → is_over (second_step s b n) ≡ false
  safe-not-over passes (inl h) = over-not-within _ h
  safe-not-over passes (inr w) =
      let x = (position_in b n s.code).net in
      one-sided-not-over passes (rw (+ℤ_idr x) (subst (OneSided x) (own-net s b n (lots_for (whole s) n)) w))

pub safe-split : SafeSplit
safe-split s b e f g o room buyer seller =
    let a = what-parts-meet s b e f g o in
    record {
      first_passes = a.first_passes;
      second-passes = a.second-answered ∙ not_lifted;
      alike = same_end s b e f g o.tickets o.whole-passes a.first_passes (a.second-answered ∙ not_lifted);
    }
  where
    not_lifted : second_refusal s b ≡ 0
    not_lifted =
        rw (
          room,
          safe-not-over s b s.buyer (buyer-not-over s b e f g o) buyer,
          safe-not-over s b s.seller (seller-not-over s b e f g o) seller,
        )

pub safe-again : SafeAgain
safe-again s more b n is safe = subst Safe (sym is) (subst SafeAt (positions-alike s b) (go safe))
  where
    Safe : Trade → Type 0
    Safe t =
        (total_in (traded (traded b (first s)) t) n ≤ℤ limit_in b n)
        ⊎ OneSided (position_in (traded b (first s)) n t.code).net (position_in (traded (traded b (first s)) t) n t.code).net

    SafeAt : (ℕ → ℕ → Position) → Type 0
    SafeAt p = (total (map (p n) b.contracts.codes) (margins_of b) ≤ℤ limit_in b n) ⊎ OneSided (position_in (traded b (first s)) n s.code).net (p n s.code).net

    go : SafeFor s b n → SafeAt (traded b (whole s)).accounts.position
    go (inl h) = inl h
    go (inr w) = inr (still-one-sided _ _ _ between w)
      where
        between : Between (position_in b n s.code).net (position_in (traded b (first s)) n s.code).net (position_in (traded b (whole s)) n s.code).net
        between = rw (own-net s b n (lots_for (first s) n), own-net s b n (lots_for (whole s) n)) (lots-between s n (position_in b n s.code).net)

-- ---- records that people write
written-says : (t : Trade) → call_of (written t) ≡ trade t
unfolding call_of
written-says t =
    ap (λ rate. trade (record { time = t.time; code = t.code; buyer = t.buyer; seller = t.seller; lots = t.lots; rate = rate }))
    (unfolded-folded t.rate)

-- hours lie within the day
hours-time : (time : ℕ) → in_hours time ≡ true → time ≤ 86399
hours-time time h = go (ends (leb (clock 9 0) time) (ltb time (clock 12 0)) (leb (clock 13 30) time) (ltb time (clock 16 30)) h)
  where
    ends : (a b c d : Bool) → ((a && b) || (c && d)) ≡ true → (b ≡ true) ⊎ (d ≡ true)
    ends true true c d h = inl refl
    ends true false true d h = inr h
    ends true false false d h = absurd (false≢true h)
    ends false b true d h = inr h
    ends false b false d h = absurd (false≢true h)

    go : (ltb time (clock 12 0) ≡ true) ⊎ (ltb time (clock 16 30) ≡ true) → time ≤ 86399
    go (inl e) = let h = ltb-true time (clock 12 0) e in omega arith
    go (inr e) = let h = ltb-true time (clock 16 30) e in omega arith

-- a part's other fields are the ticket's
part-in-range : (t : Trade) (time lots : ℕ) → ranged (written t) ≡ 0 → time ≤ 86399 → 0 < lots → lots ≤ t.lots
    → ranged (trades time t.code t.buyer t.seller lots t.rate) ≡ 0
unfolding kinds ceilings all_within all rising
part-in-range t time lots r day least most =
    let i = ranged-tells (written t) r in
    let within-lots = within-ends quantity.lots t.lots (i.within 4 quantity.lots (omega arith)) in
    rw (
      leb-zero time,
      le-leb time 86399 day,
      i.within 1 quantity.code (omega arith),
      i.within 2 quantity.account (omega arith),
      i.within 3 quantity.account (omega arith),
      le-leb 1 lots least,
      le-leb lots 1000 (le_trans most within-lots.1),
      i.within 5 quantity.rate (omega arith),
    )

pub as_written : AsWritten
as_written s b known passes i m k =
    let range = (accepted-by b (written (whole s)) passes).ranges in
    record {
      tickets = record { wholes = written-says (whole s); firsts = written-says (first s); seconds = written-says (second s) };
      whole-passes = passes;
      in_order = i;
      ranges = (
        part-in-range (whole s) s.first_time s.first_lots range (hours-time s.first_time i.hours.0) m (omega arith),
        part-in-range (whole s) s.second_time s.second_lots range (hours-time s.second_time i.hours.1) k (omega arith),
      );
      not_beyond = (near s.buyer, near s.seller);
    }
  where
    near : (n : ℕ) → is_beyond (position_in b n s.code) ≡ false
    near n = le-ltb 20000 _ (known.sized.dealt.nets n s.code).size
