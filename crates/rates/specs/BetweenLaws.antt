-- Under rules 1, 2 and 3 the rate lies between the least and the greatest of the rates that it is made of.
use Rattle.std.specs.Prelude.{Bool, ℕ, ◌≤◌, ◌<◌, ℤ, pos, ◌+ℤ◌, ◌*ℤ◌, ◌≤ℤ◌}
use mathlib.Core.List.{List, [], ◌∷◌, map}
use Rattle.std.proofs.Common.{arith}
use Rattle.std.proofs.Math.IntN.{*ℤ_comm, zero-*ℤ}
use Rattle.std.specs.Int.Signed.{≤ℤ_refl}
use Rattle.lists.specs.All.{All, none_left, and-more, all-weaken, all_split, all_map}
use Rattle.whole.specs.Larger.{larger, smaller, larger-above, smaller-below}
use Rattle.whole.specs.Order.{≤ℤ-trans, pos-nonneg, +ℤ-mono, *ℤ-mono}
use Rattle.whole.specs.Ring.{add-mulℤ}
use Rattle.whole.specs.Round.{on_tie}
use Rattle.whole.proofs.RoundLaws.{on_tie-rule, rounded-least, rounded-most}
use Rattle.whole.specs.Sums.{sum_z}
use Rattle.tallies.specs.Means.{by_lots, mean_of, once, total, worth}
use Rattle.tallies.specs.Day.{Trade, Quote, late_trades, last_five, bids_of, offers_of}
use Rattle.tallies.specs.declared.Weighted.{Weighted}
use Rattle.tallies.specs.declared.Mean.{Mean}
use Rattle.rates.specs.ExactLaws.{halfway-times, halfway-weighs}
use Rattle.rates.specs.Rules.{halfway, nearest}
use Rattle.rates.specs.Rules.{number_of, rule_of, used_by, rate_by, settled}
use Rattle.rates.specs.CountLaws.{Weighs, rule-weighs}
use Rattle.rates.specs.declared.Rule.{Rule}
use Rattle.rates.specs.declared.Rule.TheVariants.{LastHour, LastFive, Quotes, Previous, Final}

pub record Between (lo hi z : ℤ) : Type 0 where
  pub least : lo ≤ℤ z
  pub most : z ≤ℤ hi

between-+ : {a b c d x y : ℤ} → Between a b x → Between c d y → Between (a +ℤ c) (b +ℤ d) (x +ℤ y)
between-+ h k = record { least = +ℤ-mono h.least k.least; most = +ℤ-mono h.most k.most }

between-* : {lo hi z : ℤ} (k : ℕ) → Between lo hi z → Between (lo *ℤ pos k) (hi *ℤ pos k) (z *ℤ pos k)
between-* k h = record { least = *ℤ-mono (pos-nonneg k) h.least; most = *ℤ-mono (pos-nonneg k) h.most }

-- ---- means
module _ (lo hi : ℤ) where
  -- the quotient, not yet divided
  abbrev MeanBetween : Mean → Type 0
  MeanBetween m = Between (pos m.weight *ℤ lo) (pos m.weight *ℤ hi) m.sum

  mean-between : (ws : List Weighted) → All (λ w. Between lo hi w.rate) ws → MeanBetween (mean_of ws)
  unfolding mean_of total sum_z
  mean-between [] none_left = rw (zero-*ℤ lo, zero-*ℤ hi) (record { least = ≤ℤ_refl (pos 0); most = ≤ℤ_refl (pos 0) })
  mean-between (w ∷ ws) (and-more h a) =
      let k = w.weight in
      let rest = total (map (λ (v : Weighted). v.weight) ws) in
      let first : Between (pos k *ℤ lo) (pos k *ℤ hi) (worth w) =
      rw (*ℤ_comm (pos k) lo, *ℤ_comm (pos k) hi, *ℤ_comm (pos k) w.rate) (between-* k h) in
      rw (add-mulℤ (pos k) (pos rest) lo, add-mulℤ (pos k) (pos rest) hi) (between-+ first (mean-between ws a))

  halfway-between : (a b : Mean) → MeanBetween a → MeanBetween b → MeanBetween (halfway a b)
  unfolding halfway
  halfway-between a b h k =
      rw (halfway-times (pos a.weight) (pos b.weight) lo, halfway-times (pos a.weight) (pos b.weight) hi)
      (between-+ (between-* b.weight h) (between-* a.weight k))

  nearest-between : (m : Mean) → 0 < m.weight → MeanBetween m → Between lo hi (nearest m)
  nearest-between m h b = record {
    least = rounded-least on_tie on_tie-rule m.sum m.weight h lo b.least;
    most = rounded-most on_tie on_tie-rule m.sum m.weight h hi b.most;
  }

-- ---- the least and the greatest of a list
-- 0 stands for those of no rates: rules 1, 2 and 3 use some (`used-counts`).
unfoldable pub least_of : List ℤ → ℤ
least_of [] = pos 0
least_of (x ∷ []) = x
least_of (x ∷ y ∷ ys) = smaller x (least_of (y ∷ ys))

unfoldable pub greatest_of : List ℤ → ℤ
greatest_of [] = pos 0
greatest_of (x ∷ []) = x
greatest_of (x ∷ y ∷ ys) = larger x (greatest_of (y ∷ ys))

pub each-between : (xs : List ℤ) → All (Between (least_of xs) (greatest_of xs)) xs
unfolding least_of greatest_of
each-between [] = none_left
each-between (x ∷ []) = and-more (record { least = ≤ℤ_refl x; most = ≤ℤ_refl x }) none_left
each-between (x ∷ y ∷ ys) =
    let lo = least_of (y ∷ ys) in
    let hi = greatest_of (y ∷ ys) in
    let below = smaller-below x lo in
    let above = larger-above x hi in
    and-more (record { least = below.0; most = above.0 })
    (all-weaken
    (λ z b. record { least = ≤ℤ-trans below.1 b.least; most = ≤ℤ-trans b.most above.1 })
    (each-between (y ∷ ys)))

-- ---- the settled rate
module _ (trades : List Trade) (quotes : List Quote) (previous : ℤ) (ending : Bool) (final : ℤ)
    (lots : All (λ t. 0 < t.lots) trades) (by-mean : number_of (rule_of trades quotes ending) ≤ 3) where
  -- bounds of each rate that it is made of are bounds of it
  pub settled-between : (lo hi : ℤ)
      → All (λ w. Between lo hi w.rate) (used_by trades quotes (rule_of trades quotes ending))
      → Between lo hi (settled trades quotes previous ending final).rate
  unfolding settled
  settled-between lo hi = go (rule_of trades quotes ending) by-mean (rule-weighs trades quotes lots ending)
    where
      go : (r : Rule) → number_of r ≤ 3 → Weighs trades quotes r
          → All (λ w. Between lo hi w.rate) (used_by trades quotes r)
          → Between lo hi (rate_by trades quotes r previous final)
      go LastHour n h a =
          let ws = map by_lots (late_trades trades) in
          nearest-between lo hi (mean_of ws) h (mean-between lo hi ws a)
      go LastFive n h a =
          let ws = map by_lots (last_five trades) in
          nearest-between lo hi (mean_of ws) h (mean-between lo hi ws a)
      go Quotes n h a =
          let bids = map once (bids_of quotes) in
          let offers = map once (offers_of quotes) in
          let both = all_split bids a in
          nearest-between lo hi (halfway (mean_of bids) (mean_of offers))
          (halfway-weighs (mean_of bids) (mean_of offers) h.0 h.1)
          (halfway-between lo hi (mean_of bids) (mean_of offers)
          (mean-between lo hi bids both.0) (mean-between lo hi offers both.1))
      go Previous n h a = absurd (omega arith)
      go Final n h a = absurd (omega arith)

  pub settled-in-range :
      let rates = map (λ (w : Weighted). w.rate) (used_by trades quotes (rule_of trades quotes ending)) in
      Between (least_of rates) (greatest_of rates) (settled trades quotes previous ending final).rate
  settled-in-range =
      let used = used_by trades quotes (rule_of trades quotes ending) in
      let rates = map (λ (w : Weighted). w.rate) used in
      settled-between (least_of rates) (greatest_of rates) (all_map (λ (w : Weighted). w.rate) used (each-between rates))
