-- What the rule that is chosen asks of the counts, how many trades or quotes it uses, and that what it divides by is
-- above zero.
use Rattle.std.specs.Prelude.{◌≡◌, Bool, false, ◌&&◌, List, [], ◌∷◌, map, ℕ, ◌-◌, ◌≤◌, ◌<◌, ℤ, length}
use Rattle.std.proofs.Math.Path.{refl}
use Rattle.std.proofs.Common.{◌∙◌, arith, length-append, length-drop}
use Rattle.std.proofs.Math.Bool.{true, and-eq-true_iff}
use Rattle.std.proofs.Math.Dec.{leb}
use Rattle.std.proofs.Math.ListN.{length-map}
use borrow.Author.Tests.{leb-true}
use Rattle.lists.specs.All.{All, none_left, and-more, all-those, all_drop}
use Rattle.lists.specs.Keep.{cond-keeps}
use Rattle.tallies.specs.Means.{by_lots, mean_of, once, total}
use Rattle.tallies.specs.Day.{Trade, Quote, in_last_hour, late_trades, last_five, bids_of, offers_of}
use Rattle.tallies.specs.MeanLaws.{once-weigh}
use Rattle.rates.specs.Rules.{rule_at, rule_of, used_by, settled}
use Rattle.rates.specs.declared.Rule.{Rule}
use Rattle.rates.specs.declared.Rule.TheVariants.{LastHour, LastFive, Quotes, Previous, Final}

-- ---- what the chosen rule asks
module _ (late day bids offers : ℕ) (ending : Bool) where
  abbrev pub Asks : Rule → Type 0
  Asks LastHour = (ending ≡ false) × (5 ≤ late)
  Asks LastFive = 5 ≤ day
  Asks Quotes = (1 ≤ bids) × (1 ≤ offers)
  Asks Previous = Unit {0}
  Asks Final = Unit {0}

  pub rule-asks : Asks (rule_at late day bids offers ending)
  unfolding rule_at
  rule-asks =
      cond-keeps Asks ending Final _ (λ _. tt)
      (λ e. cond-keeps Asks (leb 5 late) LastHour _ (λ f. (e, leb-true 5 late f))
      (λ _. cond-keeps Asks (leb 5 day) LastFive _ (leb-true 5 day)
      (λ _. cond-keeps Asks (leb 1 bids && leb 1 offers) Quotes Previous both (λ _. tt))))
    where
      both : leb 1 bids && leb 1 offers ≡ true → (1 ≤ bids) × (1 ≤ offers)
      both e =
          let f = (and-eq-true_iff (leb 1 bids) (leb 1 offers)).0 e in
          (leb-true 1 bids f.0, leb-true 1 offers f.1)

-- ---- how many trades or counted quotes it uses
abbrev pub Uses : Rule → ℕ → Type 0
Uses LastHour n = 5 ≤ n
Uses LastFive n = n ≡ 5
Uses Quotes n = 2 ≤ n
Uses Previous n = n ≡ 0
Uses Final n = n ≡ 0

pub five-last : {X : Type 0} (xs : List X) → 5 ≤ length xs → length (last_five xs) ≡ 5
five-last xs h = rw (length-drop (length xs - 5) xs) (omega arith)

module _ (trades : List Trade) (quotes : List Quote) where
  abbrev pub AsksOf : Bool → Rule → Type 0
  AsksOf = Asks (length (late_trades trades)) (length trades) (length (bids_of quotes)) (length (offers_of quotes))

  pub rule-asks-of : (ending : Bool) → AsksOf ending (rule_of trades quotes ending)
  rule-asks-of =
      rule-asks (length (late_trades trades)) (length trades) (length (bids_of quotes)) (length (offers_of quotes))

  pub used-counts : (previous : ℤ) (ending : Bool) (final : ℤ)
      → let s = settled trades quotes previous ending final in Uses s.rule s.used
  unfolding settled
  used-counts previous ending final = go (rule_of trades quotes ending) (rule-asks-of ending)
    where
      go : (r : Rule) → AsksOf ending r → Uses r (length (used_by trades quotes r))
      go LastHour h = rw (length-map (late_trades trades) by_lots) h.1
      go LastFive h = length-map (last_five trades) by_lots ∙ five-last trades h
      go Quotes h = simp (length-append, length-map) (omega arith)
      go Previous h = refl
      go Final h = refl

-- ---- what it divides by
-- trades of some lots weigh at least as many as they are
trades-weigh : (trades : List Trade) → All (λ t. 0 < t.lots) trades
    → length trades ≤ (mean_of (map by_lots trades)).weight
unfolding mean_of total
trades-weigh [] none_left = omega arith
trades-weigh (t ∷ trades) (and-more h a) = omega (arith, trades-weigh trades a)

module _ (trades : List Trade) (quotes : List Quote) where
  abbrev pub Weighs : Rule → Type 0
  Weighs LastHour = 0 < (mean_of (map by_lots (late_trades trades))).weight
  Weighs LastFive = 0 < (mean_of (map by_lots (last_five trades))).weight
  Weighs Quotes = (0 < (mean_of (map once (bids_of quotes))).weight) × (0 < (mean_of (map once (offers_of quotes))).weight)
  Weighs Previous = Unit {0}
  Weighs Final = Unit {0}

  pub rule-weighs : All (λ t. 0 < t.lots) trades → (ending : Bool) → Weighs (rule_of trades quotes ending)
  rule-weighs lots ending = go (rule_of trades quotes ending) (rule-asks-of trades quotes ending)
    where
      go : (r : Rule) → AsksOf trades quotes ending r → Weighs r
      go LastHour h =
          omega (arith, h.1, trades-weigh (late_trades trades) (all-those (λ t. in_last_hour t.time) lots))
      go LastFive h =
          omega (arith, five-last trades h, trades-weigh (last_five trades) (all_drop (length trades - 5) lots))
      go Quotes h = (rw (once-weigh (bids_of quotes)) h.0, rw (once-weigh (offers_of quotes)) h.1)
      go Previous h = tt
      go Final h = tt
