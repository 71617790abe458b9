-- What a desk is told besides its bill: how the contracts stood before a close, the parts of its requirement, and the totals that a
-- trade would give it.
use Rattle.std.specs.Prelude.{◌≡◌, cond, List, map, ◌⊎◌, ℕ, ℤ, pos, Option, Some, None}
use Rattle.lists.specs.Padded.{padded}
use Rattle.holdings.specs.Holdings.{basis}
use Rattle.closing.specs.DayEnd.{over_limit}
use Rattle.model.specs.Book.{Book, is_member, is_listed}
use Rattle.model.specs.Calls.{Trade}
use Rattle.model.specs.Refusals.{is_open, side_totals}
use Rattle.particulars.specs.declared.Stood.{Stood}
use Rattle.particulars.specs.declared.Parts.{Parts}
use Rattle.holdings.specs.declared.Totals.{Totals}

-- the listed codes, their previous settlement rates, and the account's "net before today" in each
abbrev pub previous_rates : Book → List ℤ
previous_rates b = padded 6 (pos 0) (map (λ c. (b.contracts.terms c).previous) b.contracts.codes)

abbrev pub nets_before : Book → ℕ → List ℤ
nets_before b n = padded 6 (pos 0) (map (λ c. (b.accounts.position n c).before) b.contracts.codes)

-- the three of one contract; a row that no contract has; and the six rows
abbrev pub stood_of : Book → ℕ → ℕ → Stood
stood_of b n c = record { code = c; previous = (b.contracts.terms c).previous; net = (b.accounts.position n c).before }

abbrev pub no_stood : Stood
no_stood = record { code = 0; previous = pos 0; net = pos 0 }

abbrev pub standing_of : Book → ℕ → List Stood
standing_of b n = padded 6 no_stood (map (stood_of b n) b.contracts.codes)

-- "requirement = clearing limit x reference rate + over-limit + special margin", and what the account has
abbrev pub parts_of : Book → ℕ → Parts
parts_of b n = record {
  clearing = (b.accounts.held n).limits.clearing;
  reference = b.settings.reference;
  multiplier = b.settings.multiplier;
  basis = basis (b.accounts.held n).limits b.settings.reference;
  total = (b.accounts.held n).dayend;
  over = over_limit (b.accounts.held n).dayend (basis (b.accounts.held n).limits b.settings.reference) b.settings.multiplier;
  special = (b.accounts.held n).special;
  margin = (b.accounts.funds n).margin;
  cash = (b.accounts.funds n).cash;
  flag = (b.accounts.funds n).flag;
}

abbrev pub parted_in : Book → ℕ → Option Parts
parted_in b n = cond (is_member b n) (Some (parts_of b n)) None

-- a number that is one of a trade's two sides, which may be one account
abbrev pub IsSide : Trade → ℕ → Type 0
IsSide t n = (n ≡ t.buyer) ⊎ (n ≡ t.seller)

-- "each side's total before and after and its limit", for a trade that need not be accepted
abbrev pub asked_in : Book → Trade → ℕ → Option Totals
asked_in b t n =
    cond (is_open b.today.point)
    (cond (is_listed b t.code) (cond (is_member b n) (Some (side_totals b t n)) None) None)
    None
