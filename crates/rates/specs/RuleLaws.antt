-- What settles from a tally is what the rules say of the day's lists (`settles`); what a rule divides by is above zero;
-- the rate is within the rates' own bound.
use Rattle.std.specs.Prelude.{◌≡◌, refl, Bool, ℕ, ◌+◌, ◌-◌, ◌≤◌, ◌<◌, ℤ, drop, replicate}
use Rattle.std.proofs.Math.Path.{sym, ap₂}
use Rattle.std.proofs.Common.{subst, ap, ◌∙◌, arith, length-append}
use mathlib.Core.List.{List, ◌++◌, map}
use Rattle.std.proofs.Math.ListN.{length}
use Rattle.std.proofs.lemmas.List.{length-map}
use Rattle.std.proofs.Math.Seq.{drop-append-add}
use Rattle.lists.specs.Rows.{drop-map}
use Rattle.whole.proofs.RoundLaws.{rounded-within, on_tie-rule}
use Rattle.whole.specs.Round.{on_tie}
use Rattle.whole.specs.Within.{Within}
use Rattle.tallies.specs.Means.{by_lots, mean_of, once}
use Rattle.tallies.specs.Day.{Trade, Quote, late_trades, last_five, bids_of, offers_of}
use Rattle.tallies.specs.Tally.{none, latest_of, tally_from, tally_of, side_in}
use Rattle.tallies.specs.Bounds.{GoodDay, Fair, Sound}
use Rattle.tallies.specs.MeanLaws.{once-weigh, weight-most, fair-of}
use Rattle.tallies.proofs.TallyLaws.{day-sound}
use Rattle.tallies.specs.declared.Mean.{Mean}
use Rattle.tallies.specs.declared.Tally.{Tally}
use Rattle.rates.specs.Settling.{Divides, rate_from, rule_from, settled_from, used_from}
use Rattle.rates.specs.ExactLaws.{fair-halfway, halfway-weighs}
use Rattle.rates.specs.Rules.{halfway, nearest, rule_at, rule_of, used_by, rate_by, settled}
use Rattle.rates.specs.CountLaws.{Asks, rule-asks, AsksOf, rule-asks-of, five-last}
use Rattle.rates.specs.declared.Rule.{Rule}
use Rattle.rates.specs.declared.Rule.TheVariants.{LastHour, LastFive, Quotes, Previous, Final}
use Rattle.rates.specs.declared.Settled.{Settled}

-- ---- the last five of five or more
latest-full : (trades : List Trade) → 5 ≤ length trades → latest_of (map by_lots trades) ≡ map by_lots (last_five trades)
unfolding latest_of
latest-full trades h =
    let five = replicate 5 none in
    let e : length (map by_lots trades) ≡ 5 + (length trades - 5) = omega (arith, length-map trades by_lots) in
    ap (λ n. drop n (five ++ map by_lots trades)) e
    ∙ drop-append-add five (map by_lots trades) (length trades - 5)
    ∙ drop-map by_lots (length trades - 5) trades

-- ---- the theorem
module _ (trades : List Trade) (quotes : List Quote) (previous : ℤ) (ending : Bool) (final : ℤ) where
  abbrev t : Tally
  t = tally_of trades quotes

  same-rule : rule_from t ending ≡ rule_of trades quotes ending
  unfolding tally_from
  same-rule =
      ap₂ (λ b o. rule_at (length (late_trades trades)) (length trades) b o ending)
      (once-weigh (bids_of quotes)) (once-weigh (offers_of quotes))

  -- rate and count are the same by the rule that applies
  abbrev Alike : Rule → Type 0
  Alike rule =
      (rate_from t rule previous final ≡ rate_by trades quotes rule previous final)
      × (used_from t rule ≡ length (used_by trades quotes rule))

  alike : Alike (rule_of trades quotes ending)
  unfolding tally_from
  alike = go (rule_of trades quotes ending) (rule-asks-of trades quotes ending)
    where
      weighed : (qs : List Quote) → (mean_of (map once qs)).weight ≡ length (map once qs)
      weighed qs = once-weigh qs ∙ sym (length-map qs once)

      go : (rule : Rule) → AsksOf trades quotes ending rule → Alike rule
      go LastHour h = (refl, sym (length-map (late_trades trades) by_lots))
      go LastFive h = (
        ap (λ ws. nearest (mean_of ws)) (latest-full trades h),
        sym (length-map (last_five trades) by_lots ∙ five-last trades h),
      )
      go Quotes h = (
        refl,
        ap₂ ◌+◌ (weighed (bids_of quotes)) (weighed (offers_of quotes))
            ∙ sym (length-append (map once (bids_of quotes)) (map once (offers_of quotes))),
      )
      go Previous h = (refl, refl)
      go Final h = (refl, refl)

  pub settles : settled_from t previous ending final ≡ settled trades quotes previous ending final
  unfolding settled_from settled
  settles = rw (same-rule, alike.0, alike.1)

-- ---- the answer, part by part
pub settled-by : (t : Tally) (previous : ℤ) (ending : Bool) (final : ℤ) {s : Settled}
    → s.rule ≡ rule_from t ending → s.used ≡ used_from t s.rule → s.rate ≡ rate_from t s.rule previous final
    → s ≡ settled_from t previous ending final
unfolding settled_from
settled-by t previous ending final {s} rule used rate = rw (← rule, ← used, ← rate)

-- ---- sizes
module _ (t : Tally) (s : Sound t) where
  pub rule-divides : (ending : Bool) → Divides (rule_from t ending) t
  rule-divides ending = go (rule_from t ending) (rule-asks t.late t.trades (side_in t 0).weight (side_in t 1).weight ending)
    where
      go : (rule : Rule) → Asks t.late t.trades (side_in t 0).weight (side_in t 1).weight ending rule → Divides rule t
      go LastHour h = omega (arith, h.1, s.least)
      go LastFive h = omega (arith, h, s.newest (omega arith), weight-most t.latest 4)
      go Quotes h = h
      go Previous h = tt
      go Final h = tt

  nearest-within : {W : ℕ} (m : Mean) → Fair W m → 0 < m.weight → Within 100000 (nearest m)
  nearest-within m f h = rounded-within on_tie m.sum m.weight h on_tie-rule f.sum

  pub rate-within : (previous : ℤ) (ending : Bool) (final : ℤ) → Within 100000 previous → Within 100000 final
      → Within 100000 (settled_from t previous ending final).rate
  unfolding settled_from
  rate-within previous ending final p f = go (rule_from t ending) (rule-divides ending)
    where
      go : (rule : Rule) → Divides rule t → Within 100000 (rate_from t rule previous final)
      go LastHour d = nearest-within t.hour s.hour d
      go LastFive d = nearest-within (mean_of t.latest) (fair-of t.latest s.latest) d
      go Quotes d =
          let bids = side_in t 0 in
          let offers = side_in t 1 in
          nearest-within (halfway bids offers) (fair-halfway bids offers (s.quotes 0) (s.quotes 1))
          (halfway-weighs bids offers d.0 d.1)
      go Previous d = p
      go Final d = f

pub settled-within : {trades : List Trade} {quotes : List Quote} (previous : ℤ) (ending : Bool) (final : ℤ)
    → GoodDay trades quotes → Within 100000 previous → Within 100000 final
    → Within 100000 (settled trades quotes previous ending final).rate
settled-within {trades} {quotes} previous ending final d p f =
    subst (λ (x : Settled). Within 100000 x.rate) (settles trades quotes previous ending final)
    (rate-within (tally_of trades quotes) (day-sound d) previous ending final p f)
