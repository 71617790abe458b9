-- What settles from a tally. RuleLaws says that it is what the rules say of the day's lists.
use Rattle.std.specs.Prelude.{Bool, ℕ, ◌+◌, ◌<◌, ℤ}
use Rattle.tallies.specs.Means.{mean_of}
use Rattle.tallies.specs.Tally.{side_in}
use Rattle.tallies.specs.declared.Tally.{Tally}
use Rattle.rates.specs.Rules.{halfway, nearest, rule_at}
use Rattle.rates.specs.declared.Rule.{Rule}
use Rattle.rates.specs.declared.Rule.TheVariants.{LastHour, LastFive, Quotes, Previous, Final}
use Rattle.rates.specs.declared.Settled.{Settled}

module _ (t : Tally) where
  abbrev pub rule_from : Bool → Rule
  rule_from ending = rule_at t.late t.trades (side_in t 0).weight (side_in t 1).weight ending

  abbrev pub used_from : Rule → ℕ
  used_from LastHour = t.late
  used_from LastFive = 5
  used_from Quotes = (side_in t 0).weight + (side_in t 1).weight
  used_from Previous = 0
  used_from Final = 0

  abbrev pub rate_from : Rule → ℤ → ℤ → ℤ
  rate_from LastHour previous final = nearest t.hour
  rate_from LastFive previous final = nearest (mean_of t.latest)
  rate_from Quotes previous final = nearest (halfway (side_in t 0) (side_in t 1))
  rate_from Previous previous final = previous
  rate_from Final previous final = final

  unfoldable pub settled_from : ℤ → Bool → ℤ → Settled
  settled_from previous ending final = record {
    rate = rate_from (rule_from ending) previous final;
    rule = rule_from ending;
    used = used_from (rule_from ending);
  }

-- What a rule divides by is above zero.
abbrev pub Divides : Rule → Tally → Type 0
Divides LastHour t = 0 < t.hour.weight
Divides LastFive t = 0 < (mean_of t.latest).weight
Divides Quotes t = (0 < (side_in t 0).weight) × (0 < (side_in t 1).weight)
Divides Previous t = Unit {0}
Divides Final t = Unit {0}
