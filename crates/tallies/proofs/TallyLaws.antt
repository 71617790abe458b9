-- One trade or quote more at the end of a list is one more in the tally; what is added keeps the bounds; a day within
-- document 01's ceilings has a tally within them.
use Rattle.std.specs.Prelude.{◌≡◌, refl, Bool, true, false, ◌&&◌, cond, List, [], ◌∷◌, ◌++◌, map, ℕ, zero, suc, ◌+◌, ◌≤◌, ◌<◌, eqb, ltb, length, drop, get_or, set, replicate}
use Rattle.std.proofs.Common.{sym, subst, ap, ap₂, ◌∙◌, append_assoc, append-nil, arith, length-append, length-drop, length-set, drop_of_length-le, get_or-drop, drop-cons, drop-drop, ne_eqb, le-ltb}
use Rattle.std.proofs.Math.Bool.{and-eq-true_iff}
use Rattle.std.proofs.lemmas.List.{get_or_at, drop-append-le}
use Rattle.std.proofs.Math.Seq.{append_snoc}
use Rattle.lists.specs.All.{All, none_left, and-more, all-those}
use Rattle.lists.specs.Keep.{cond-keeps, set_keeps, more-keeps, replicate-keeps}
use Rattle.lists.specs.Rows.{map-append}
use Rattle.lists.specs.Those.{those, those-more}
use Rattle.tallies.specs.Day.{Trade, Quote, in_last_hour, late_trades, counted}
use Rattle.tallies.specs.Means.{mean_of, mean_with, by_lots, once}
use Rattle.tallies.specs.Tally.{none, latest_of, no_rates, side_of, sides_of, tally_from, tally_of, side_in, shifted, in_day, in_hour, with_trade, in_side, with_quote}
use Rattle.tallies.specs.Bounds.{GoodTrade, GoodQuote, GoodDay, Small, EachSmall, Fair, Sound, TradeFits, QuoteFits}
use Rattle.tallies.specs.MeanLaws.{mean-more, mean-none, once-weigh, small-none, fair-none, fair-with, fair-of}
use Rattle.tallies.specs.declared.Weighted.{Weighted}
use Rattle.tallies.specs.declared.Mean.{Mean}
use Rattle.tallies.specs.declared.Tally.{Tally}

-- ---- the last five
length_last : {X : Type 0} (xs : List X) (x : X) → length (xs ++ (x ∷ [])) ≡ length xs + 1
length_last xs x = length-append xs (x ∷ [])

pub latest-more : (ws : List Weighted) (w : Weighted) → latest_of (ws ++ (w ∷ [])) ≡ shifted (latest_of ws) w
unfolding latest_of
latest-more ws w =
    let five = replicate 5 none in
    let long : length (five ++ ws) ≡ 5 + length ws = length-append five ws in
    let fits : length ws ≤ length (five ++ ws) = omega arith in
    let some : 1 ≤ length (drop (length ws) (five ++ ws)) = omega (arith, length-drop (length ws) (five ++ ws)) in
    ap (λ n. drop n (five ++ (ws ++ (w ∷ [])))) (length_last ws w)
    ∙ sym (drop-drop 1 (length ws) (five ++ (ws ++ (w ∷ []))))
    ∙ ap (λ l. drop 1 (drop (length ws) l)) (sym (append_assoc five ws (w ∷ [])))
    ∙ ap (drop 1) (drop-append-le (length ws) (five ++ ws) (w ∷ []) fits)
    ∙ drop-append-le 1 (drop (length ws) (five ++ ws)) (w ∷ []) some

-- ---- the tally of a list with one more
module _ (trades late : List Trade) (sides : List Mean) where
  day-more : (t : Trade) → tally_from (trades ++ (t ∷ [])) late sides ≡ in_day (tally_from trades late sides) (by_lots t)
  unfolding tally_from in_day
  day-more t = rw (length_last trades t, map-append by_lots trades (t ∷ []), latest-more (map by_lots trades) (by_lots t))

  hour-more : (t : Trade) → tally_from trades (late ++ (t ∷ [])) sides ≡ in_hour (tally_from trades late sides) (by_lots t)
  unfolding tally_from in_hour
  hour-more t = rw (length_last late t, map-append by_lots late (t ∷ []), mean-more (map by_lots late) (by_lots t))

pub one-trade-more : (trades : List Trade) (quotes : List Quote) (t : Trade)
    → tally_of (trades ++ (t ∷ [])) quotes ≡ with_trade (tally_of trades quotes) t.time (by_lots t)
one-trade-more trades quotes t =
    ap (λ l. tally_from (trades ++ (t ∷ [])) l sides) (those-more (λ u. in_last_hour u.time) trades t)
    ∙ go (in_last_hour t.time)
  where
    late : List Trade
    late = late_trades trades

    sides : List Mean
    sides = sides_of quotes

    go : (s : Bool) → tally_from (trades ++ (t ∷ [])) (cond s (late ++ (t ∷ [])) late) sides
        ≡ cond s (in_hour (in_day (tally_from trades late sides) (by_lots t)) (by_lots t))
        (in_day (tally_from trades late sides) (by_lots t))
    go true = hour-more (trades ++ (t ∷ [])) late sides t ∙ ap (λ x. in_hour x (by_lots t)) (day-more trades late sides t)
    go false = day-more trades late sides t

module _ (quotes : List Quote) (q : Quote) where
  side-more : (side : ℕ) → side_of (quotes ++ (q ∷ [])) side
      ≡ cond (in_last_hour q.time && eqb q.side side) (mean_with (side_of quotes side) (once q)) (side_of quotes side)
  side-more side = ap (λ l. mean_of (map once l)) (those-more counts quotes q) ∙ go (counts q)
    where
      counts : Quote → Bool
      counts u = in_last_hour u.time && eqb u.side side

      these : List Quote
      these = counted side quotes

      go : (s : Bool) → mean_of (map once (cond s (these ++ (q ∷ [])) these))
          ≡ cond s (mean_with (mean_of (map once these)) (once q)) (mean_of (map once these))
      go true = ap mean_of (map-append once these (q ∷ [])) ∙ mean-more (map once these) (once q)
      go false = refl

  abbrev quoted : ℕ → Mean
  quoted side = mean_with (side_of quotes side) (once q)

  -- both sides, of which the quote changes its own
  sides-more : (h : Bool) (side : ℕ)
      → cond (h && eqb side 0) (quoted 0) (side_of quotes 0) ∷ cond (h && eqb side 1) (quoted 1) (side_of quotes 1) ∷ []
      ≡ cond (h && ltb side 2) (set (sides_of quotes) side (mean_with (get_or (sides_of quotes) side no_rates) (once q))) (sides_of quotes)
  sides-more false side = refl
  sides-more true zero = refl
  sides-more true (suc zero) = refl
  sides-more true (suc (suc n)) =
      let side = suc (suc n) in
      rw (ne_eqb side 0 (λ e. omega arith), ne_eqb side 1 (λ e. omega arith), le-ltb side 2 (omega arith))

pub one-quote-more : (trades : List Trade) (quotes : List Quote) (q : Quote)
    → tally_of trades (quotes ++ (q ∷ [])) ≡ with_quote (tally_of trades quotes) q.time q.side (once q)
unfolding tally_from in_side
one-quote-more trades quotes q =
    ap (tally_from trades (late_trades trades))
    (ap₂ (λ b o. b ∷ o ∷ []) (side-more quotes q 0) (side-more quotes q 1)
    ∙ sides-more quotes q (in_last_hour q.time) q.side)
    ∙ go (in_last_hour q.time && ltb q.side 2)
  where
    t : Tally
    t = tally_of trades quotes

    changed : List Mean
    changed = set (sides_of quotes) q.side (mean_with (side_in t q.side) (once q))

    go : (s : Bool) → tally_from trades (late_trades trades) (cond s changed (sides_of quotes))
        ≡ cond s (in_side t q.side (once q)) t
    go true = refl
    go false = refl

-- the five, one by one
pub shifted-is : (ws : List Weighted) (w : Weighted) → length ws ≡ 5
    → get_or ws 1 none ∷ get_or ws 2 none ∷ get_or ws 3 none ∷ get_or ws 4 none ∷ w ∷ [] ≡ shifted ws w
shifted-is ws w h =
    sym (ap (λ l. l ++ (w ∷ []))
    (drop-cons ws 1 none (omega arith)
    ∙ ap (λ l. get_or ws 1 none ∷ l) (drop-cons ws 2 none (omega arith)
    ∙ ap (λ l. get_or ws 2 none ∷ l) (drop-cons ws 3 none (omega arith)
    ∙ ap (λ l. get_or ws 3 none ∷ l) (drop-cons ws 4 none (omega arith)
    ∙ ap (λ l. get_or ws 4 none ∷ l) (drop_of_length-le ws {i = 5} (omega arith)))))))

-- ---- one more, case by case
module _ (t : Tally) (time : ℕ) (w : Weighted) where
  pub trade-late : in_last_hour time ≡ true → with_trade t time w ≡ in_hour (in_day t w) w
  trade-late e = rw e

  pub trade-early : in_last_hour time ≡ false → with_trade t time w ≡ in_day t w
  trade-early e = rw e

module _ (t : Tally) (time side : ℕ) (w : Weighted) where
  pub quote-early : in_last_hour time ≡ false → with_quote t time side w ≡ t
  quote-early e = rw e

  pub quote-counts : in_last_hour time ≡ true → ltb side 2 ≡ true → with_quote t time side w ≡ in_side t side w
  quote-counts e f = rw (e, f)

  pub quote-of-no-side : in_last_hour time ≡ true → ltb side 2 ≡ false → with_quote t time side w ≡ t
  quote-of-no-side e f = rw (e, f)

-- "Quotes outside the last hour move the clock and count nowhere" (Refusal numbers).
pub quote-elsewhere : (trades : List Trade) (quotes : List Quote) (q : Quote) → in_last_hour q.time ≡ false
    → tally_of trades (quotes ++ (q ∷ [])) ≡ tally_of trades quotes
quote-elsewhere trades quotes q e =
    one-quote-more trades quotes q ∙ quote-early (tally_of trades quotes) q.time q.side (once q) e

-- ---- what is added keeps the bounds
shifted-five : (ws : List Weighted) (w : Weighted) → length ws ≡ 5 → length (shifted ws w) ≡ 5
shifted-five ws w h = rw (length_last (drop 1 ws) w, length-drop 1 ws) (omega arith)

shifted-newest : (ws : List Weighted) (w : Weighted) → length ws ≡ 5 → get_or (shifted ws w) 4 none ≡ w
shifted-newest ws w h = get_or_at (drop 1 ws) w [] none 4 (rw (length-drop 1 ws) (omega arith))

shifted-small : (ws : List Weighted) (w : Weighted) → EachSmall ws → Small w → EachSmall (shifted ws w)
shifted-small ws w e s = record {
  at = λ i. more-keeps Small none (drop 1 ws) w i small-none s (rw (get_or-drop 1 ws i none) (e.at (1 + i)));
}

pub day-keeps : (t : Tally) (w : Weighted) → Sound t → TradeFits t w → Sound (in_day t w)
unfolding in_day
day-keeps t w s f = record {
  trades = omega (arith, f.room);
  five = shifted-five t.latest w s.five;
  latest = shifted-small t.latest w s.latest f.small;
  newest = λ _. rw (shifted-newest t.latest w s.five) f.least;
  late = omega (arith, s.late);
  least = s.least;
  hour = s.hour;
  sides = s.sides;
  quotes = s.quotes;
}

-- after the day's count went up, the hour's is below it
hour-keeps : (t : Tally) (w : Weighted) → Sound t → t.late < t.trades → 0 < w.weight → Small w → Sound (in_hour t w)
unfolding in_hour mean_with
hour-keeps t w s room least small = record {
  trades = s.trades;
  five = s.five;
  latest = s.latest;
  newest = s.newest;
  late = omega arith;
  least = omega (arith, s.least);
  hour = fair-with t.hour w s.hour small.rate (omega (arith, s.hour.weight, small.weight));
  sides = s.sides;
  quotes = s.quotes;
}

day-room : (t : Tally) (w : Weighted) → Sound t → (in_day t w).late < (in_day t w).trades
unfolding in_day
day-room t w s = omega (arith, s.late)

pub trade-keeps : (t : Tally) (time : ℕ) (w : Weighted) → Sound t → TradeFits t w → Sound (with_trade t time w)
trade-keeps t time w s f =
    let k = day-keeps t w s f in
    cond-keeps Sound (in_last_hour time) (in_hour (in_day t w) w) (in_day t w)
    (λ _. hour-keeps (in_day t w) w k (day-room t w s) f.least f.small) (λ _. k)

side-keeps : (t : Tally) (side : ℕ) (w : Weighted) → Sound t → Fair 10000 (mean_with (side_in t side) w) → Sound (in_side t side w)
unfolding in_side
side-keeps t side w s f = record {
  trades = s.trades;
  five = s.five;
  latest = s.latest;
  newest = s.newest;
  late = s.late;
  least = s.least;
  hour = s.hour;
  sides = length-set t.quotes side (mean_with (side_in t side) w) ∙ s.sides;
  quotes = λ k. set_keeps (Fair 10000) no_rates t.quotes side k (mean_with (side_in t side) w) f (s.quotes k);
}

pub quote-keeps : (t : Tally) (time side : ℕ) (w : Weighted) → Sound t → QuoteFits t time side w
    → Sound (with_quote t time side w)
quote-keeps t time side w s f =
    cond-keeps Sound (in_last_hour time && ltb side 2) (in_side t side w) t
    (λ e. side-keeps t side w s (one-fits ((and-eq-true_iff (in_last_hour time) (ltb side 2)).0 e).0)) (λ _. s)
  where
    one-fits : in_last_hour time ≡ true → Fair 10000 (mean_with (side_in t side) w)
    one-fits late = fair-with (side_in t side) w (s.quotes side) f.rate (omega (arith, f.room late, f.one))

-- ---- a day within the ceilings
each-once : (quotes : List Quote) → All GoodQuote quotes → EachSmall (map once quotes)
each-once quotes a = record { at = go quotes a }
  where
    go : (quotes : List Quote) → All GoodQuote quotes → (i : ℕ) → Small (get_or (map once quotes) i none)
    go [] none_left i = small-none
    go (q ∷ quotes) (and-more g a) zero = record { weight = omega arith; rate = g.rate }
    go (q ∷ quotes) (and-more g a) (suc i) = go quotes a i

counted-fair : (side : ℕ) (quotes : List Quote) → All GoodQuote quotes → length (counted side quotes) ≤ 10000
    → Fair 10000 (mean_of (map once (counted side quotes)))
counted-fair side quotes a few =
    let these = counted side quotes in
    record {
      weight = rw (once-weigh these) few;
      sum = (fair-of (map once these) (each-once these (all-those (λ (q : Quote). in_last_hour q.time && eqb q.side side) a))).sum;
    }

-- no trades yet
untraded-sound : (quotes : List Quote) → All GoodQuote quotes → ((side : ℕ) → length (counted side quotes) ≤ 10000)
    → Sound (tally_of [] quotes)
unfolding tally_from latest_of those
untraded-sound quotes a few = record {
  trades = omega arith;
  five = refl;
  latest = record { at = λ i. replicate-keeps Small none 5 none i small-none small-none };
  newest = λ h. absurd (omega arith);
  late = omega arith;
  least = omega arith;
  hour = rw mean-none fair-none;
  sides = refl;
  quotes = each-side;
}
  where
    each-side : (side : ℕ) → Fair 10000 (get_or (sides_of quotes) side no_rates)
    each-side zero = counted-fair 0 quotes a (few 0)
    each-side (suc zero) = counted-fair 1 quotes a (few 1)
    each-side (suc (suc n)) = fair-none

pub none-sound : Sound (tally_of [] [])
unfolding those
none-sound = untraded-sound [] none_left (λ side. omega arith)

-- then one trade after the other
trades-of : (trades : List Trade) (quotes : List Quote) → (tally_of trades quotes).trades ≡ length trades
unfolding tally_from
trades-of trades quotes = refl

sound-after : (done rest : List Trade) (quotes : List Quote) → Sound (tally_of done quotes) → All GoodTrade rest
    → length done + length rest ≤ 10000 → Sound (tally_of (done ++ rest) quotes)
sound-after done [] quotes s none_left h = rw (append-nil done) s
sound-after done (t ∷ rest) quotes s (and-more g a) h =
    let room : (tally_of done quotes).trades < 10000 = rw (trades-of done quotes) (omega arith) in
    let fits : TradeFits (tally_of done quotes) (by_lots t) = record {
      room = room;
      least = g.least;
      small = record { weight = g.most; rate = g.rate };
    } in
    subst (λ l. Sound (tally_of l quotes)) (append_snoc done t rest)
    (sound-after (done ++ (t ∷ [])) rest quotes
    (rw (one-trade-more done quotes t) (trade-keeps (tally_of done quotes) t.time (by_lots t) s fits))
    a (omega (arith, length_last done t)))

pub day-sound : {trades : List Trade} {quotes : List Quote} → GoodDay trades quotes → Sound (tally_of trades quotes)
day-sound {trades} {quotes} d =
    sound-after [] trades quotes
    (untraded-sound quotes d.each-quote d.few-quotes)
    d.each-trade (omega (arith, d.few-trades))
