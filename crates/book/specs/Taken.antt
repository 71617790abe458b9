-- What calls take of a row of fields.
use Rattle.std.specs.Prelude.{List, [], ◌∷◌, ℕ, ℤ, pos, get_or}
use Rattle.folding.specs.Fold.{unfolded}
use Rattle.holdings.specs.declared.Limits.{Limits}
use Rattle.dealing.specs.declared.Deal.{Deal}

module _ (fields : List ℕ) where
  abbrev field : ℕ → ℕ
  field i = get_or fields i 0

  -- "Signed fields .. are folded"
  abbrev signed : ℕ → ℤ
  signed i = unfolded (field i)

  -- "account, clearing limit, tolerance"
  abbrev pub limits_in : Limits
  limits_in = record { clearing = field 1; tolerance = pos (field 2) }

  -- "day, six list rates, six margin rates, by rising code"
  abbrev pub rates_in : List ℤ
  rates_in = signed 1 ∷ signed 2 ∷ signed 3 ∷ signed 4 ∷ signed 5 ∷ signed 6 ∷ []

  abbrev pub margins_in : List ℕ
  margins_in = field 7 ∷ field 8 ∷ field 9 ∷ field 10 ∷ field 11 ∷ field 12 ∷ []

  -- "time, code, buyer, seller, lots, rate"
  abbrev pub deal_in : Deal
  deal_in = record { time = field 0; code = field 1; buyer = field 2; seller = field 3; lots = field 4; rate = signed 5 }
