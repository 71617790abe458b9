-- A number added to all rates is added to the settled rate, and leaves the rule and the count as they are.
-- This rests on ties that go the same way on both sides of zero: a mean that the number takes past zero goes to the higher
-- rate before and after.
use Rattle.std.specs.Prelude.{◌≡◌, refl, Bool, ◌&&◌, ℕ, ◌-◌, ◌<◌, eqb, ℤ, pos, ◌+ℤ◌, ◌*ℤ◌, length}
use Rattle.std.proofs.Math.Path.{ap, ap₂}
use Rattle.std.proofs.Common.{sym, ◌∙◌, length-append}
use mathlib.Core.List.{List, [], ◌∷◌, map}
use Rattle.std.proofs.Math.IntN.{zero-*ℤ}
use Rattle.std.proofs.lemmas.List.{length-map}
use Rattle.lists.specs.All.{All}
use Rattle.lists.specs.Rows.{drop-map}
use Rattle.lists.specs.Those.{those-map}
use Rattle.whole.specs.Expand.{expand}
use Rattle.whole.proofs.RoundLaws.{rounded-more}
use Rattle.whole.specs.Sums.{sum_z}
use Rattle.tallies.specs.Means.{by_lots, mean_of, mean_with, once, total}
use Rattle.tallies.specs.Day.{Trade, Quote, in_last_hour, late_trades, last_five, counted, bids_of, offers_of}
use Rattle.tallies.specs.MeanLaws.{mean-first}
use Rattle.tallies.specs.declared.Weighted.{Weighted}
use Rattle.tallies.specs.declared.Mean.{Mean}
use Rattle.rates.specs.ExactLaws.{halfway-times, halfway-weighs}
use Rattle.rates.specs.Rules.{halfway, nearest, rule_of, used_by, rate_by, settled}
use Rattle.rates.specs.CountLaws.{Weighs, rule-weighs}
use Rattle.rates.specs.declared.Rule.{Rule}
use Rattle.rates.specs.declared.Rule.TheVariants.{LastHour, LastFive, Quotes, Previous, Final}
use Rattle.rates.specs.declared.Settled.{Settled}

module _ (k : ℤ) where
  abbrev pub shift_trade : Trade → Trade
  shift_trade t = record { time = t.time; lots = t.lots; rate = k +ℤ t.rate }

  abbrev pub shift_quote : Quote → Quote
  shift_quote q = record { time = q.time; side = q.side; rate = k +ℤ q.rate }

  abbrev pub shift_settled : Settled → Settled
  shift_settled s = record { rate = k +ℤ s.rate; rule = s.rule; used = s.used }

  -- ---- means
  abbrev shift_rate : Weighted → Weighted
  shift_rate w = record { weight = w.weight; rate = k +ℤ w.rate }

  -- not yet divided: the number once for each unit of weight
  abbrev shift_mean : Mean → Mean
  shift_mean m = record { sum = pos m.weight *ℤ k +ℤ m.sum; weight = m.weight }

  with-shifted : (m : Mean) (w : Weighted) → mean_with (shift_mean m) (shift_rate w) ≡ shift_mean (mean_with m w)
  unfolding mean_with
  with-shifted m w = rw (gathered (pos m.weight) (pos w.weight) m.sum w.rate)
    where
      gathered : (a b s r : ℤ) → (a *ℤ k +ℤ s) +ℤ b *ℤ (k +ℤ r) ≡ (a +ℤ b) *ℤ k +ℤ (s +ℤ b *ℤ r)
      gathered a b s r = simp expand

  mean-shifted : {X : Type 0} (weigh : X → Weighted) (shift : X → X)
      → ((x : X) → weigh (shift x) ≡ shift_rate (weigh x))
      → (xs : List X) → mean_of (map weigh (map shift xs)) ≡ shift_mean (mean_of (map weigh xs))
  unfolding mean_of total sum_z
  mean-shifted weigh shift same [] = rw (zero-*ℤ k)
  mean-shifted weigh shift same (x ∷ xs) =
      mean-first (weigh (shift x)) (map weigh (map shift xs))
      ∙ ap₂ mean_with (mean-shifted weigh shift same xs) (same x)
      ∙ with-shifted (mean_of (map weigh xs)) (weigh x)
      ∙ ap shift_mean (sym (mean-first (weigh x) (map weigh xs)))

  trades-shifted : (trades : List Trade)
      → mean_of (map by_lots (map shift_trade trades)) ≡ shift_mean (mean_of (map by_lots trades))
  trades-shifted = mean-shifted by_lots shift_trade (λ t. refl)

  quotes-shifted : (quotes : List Quote)
      → mean_of (map once (map shift_quote quotes)) ≡ shift_mean (mean_of (map once quotes))
  quotes-shifted = mean-shifted once shift_quote (λ q. refl)

  halfway-shifted : (a b : Mean) → halfway (shift_mean a) (shift_mean b) ≡ shift_mean (halfway a b)
  unfolding halfway
  halfway-shifted a b =
      rw (halfway-times (pos a.weight) (pos b.weight) k)
      (rw (gathered (pos a.weight) (pos b.weight) a.sum b.sum))
    where
      gathered : (a b A B : ℤ) → (a *ℤ k +ℤ A) *ℤ b +ℤ (b *ℤ k +ℤ B) *ℤ a
          ≡ ((a *ℤ k) *ℤ b +ℤ (b *ℤ k) *ℤ a) +ℤ (A *ℤ b +ℤ B *ℤ a)
      gathered a b A B = simp expand

  nearest-shifted : (m : Mean) → 0 < m.weight → nearest (shift_mean m) ≡ k +ℤ nearest m
  nearest-shifted m h = rounded-more m.sum k m.weight h

  -- ---- the day's lists
  late-shifted : (trades : List Trade) → late_trades (map shift_trade trades) ≡ map shift_trade (late_trades trades)
  late-shifted trades =
      those-map (λ (t : Trade). in_last_hour t.time) (λ (t : Trade). in_last_hour t.time) shift_trade trades (λ t. refl)

  last-shifted : (trades : List Trade) → last_five (map shift_trade trades) ≡ map shift_trade (last_five trades)
  last-shifted trades = rw (length-map trades shift_trade) (drop-map shift_trade (length trades - 5) trades)

  counted-shifted : (side : ℕ) (quotes : List Quote)
      → counted side (map shift_quote quotes) ≡ map shift_quote (counted side quotes)
  counted-shifted side quotes = those-map test test shift_quote quotes (λ q. refl)
    where
      test : Quote → Bool
      test q = in_last_hour q.time && eqb q.side side

-- ---- the settled rate
module _ (k : ℤ) (trades : List Trade) (quotes : List Quote) where
  rule-shifted : (ending : Bool)
      → rule_of (map (shift_trade k) trades) (map (shift_quote k) quotes) ending ≡ rule_of trades quotes ending
  rule-shifted ending = simp (late-shifted, counted-shifted, length-map)

  used-shifted : (r : Rule)
      → length (used_by (map (shift_trade k) trades) (map (shift_quote k) quotes) r) ≡ length (used_by trades quotes r)
  used-shifted LastHour = simp (late-shifted, length-map)
  used-shifted LastFive = simp (drop-map, length-map)
  used-shifted Quotes = simp (counted-shifted, length-append, length-map)
  used-shifted Previous = refl
  used-shifted Final = refl

  rate-shifted : (r : Rule) (previous final : ℤ) → Weighs trades quotes r
      → rate_by (map (shift_trade k) trades) (map (shift_quote k) quotes) r (k +ℤ previous) (k +ℤ final)
      ≡ k +ℤ rate_by trades quotes r previous final
  rate-shifted LastHour previous final h =
      rw (late-shifted k trades, trades-shifted k (late_trades trades))
      (nearest-shifted k (mean_of (map by_lots (late_trades trades))) h)
  rate-shifted LastFive previous final h =
      rw (last-shifted k trades, trades-shifted k (last_five trades))
      (nearest-shifted k (mean_of (map by_lots (last_five trades))) h)
  rate-shifted Quotes previous final h =
      let bids = mean_of (map once (bids_of quotes)) in
      let offers = mean_of (map once (offers_of quotes)) in
      rw (
        counted-shifted k 0 quotes,
        counted-shifted k 1 quotes,
        quotes-shifted k (bids_of quotes),
        quotes-shifted k (offers_of quotes),
        halfway-shifted k bids offers,
      )
      (nearest-shifted k (halfway bids offers) (halfway-weighs bids offers h.0 h.1))
  rate-shifted Previous previous final h = refl
  rate-shifted Final previous final h = refl

  pub settled-shifted : All (λ t. 0 < t.lots) trades → (previous : ℤ) (ending : Bool) (final : ℤ)
      → settled (map (shift_trade k) trades) (map (shift_quote k) quotes) (k +ℤ previous) ending (k +ℤ final)
      ≡ shift_settled k (settled trades quotes previous ending final)
  unfolding settled
  settled-shifted lots previous ending final =
      let r = rule_of trades quotes ending in
      rw
      (rule-shifted ending, used-shifted r, rate-shifted r previous final (rule-weighs trades quotes lots ending))
