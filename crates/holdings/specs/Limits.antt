-- One side of a trade against its limit.
use Rattle.std.specs.Prelude.{Bool, ◌&&◌, cond, List, ℕ, ℤ, ◌+ℤ◌, get_or}
use Rattle.std.specs.Int.Signed.{lt_z}
use Rattle.positions.specs.Deals.{flat}
use Rattle.positions.specs.Beyond.{is_beyond}
use Rattle.totals.specs.Totals.{total}
use Rattle.holdings.specs.declared.Holdings.{Holdings}
use Rattle.holdings.specs.declared.Totals.{Totals}
use Rattle.holdings.specs.declared.Side.{Side}
use Rattle.holdings.specs.declared.Side.TheVariants.{Passes, Beyond, Over}

-- Document 01, Trade: "Its limit is core + tolerance."
abbrev pub limit_of : Holdings → ℤ
limit_of h = h.core +ℤ h.limits.tolerance

-- "An accepted trade answers each side's total before and after and its limit." The totals are at the margin rates given.
unfoldable pub totals_of : List ℕ → Holdings → Holdings → Totals
totals_of margins h after = record {
  before = total h.positions margins;
  after = total after.positions margins;
  limit = limit_of h;
}

-- "A side is over the limit exactly when its new total exceeds the limit and also exceeds its total before."
unfoldable pub is_over : Totals → Bool
is_over t = lt_z t.limit t.after && lt_z t.before t.after

abbrev pub by_totals : Totals → Side
by_totals t = cond (is_over t) (Over t) (Passes t)

-- Document 01, Refusal numbers: "First that applies: .. 13, 14". The trade is in the contract of a row; the two holdings are
-- those before and after it.
unfoldable pub side_of : List ℕ → ℕ → Holdings → Holdings → Side
side_of margins row h after = cond (is_beyond (get_or after.positions row flat)) Beyond (by_totals (totals_of margins h after))

-- the refusal that a side asks for: "13 | net beyond 20,000", "14 | over the limit", and none where it passes
abbrev pub refusal_of : Side → ℕ
refusal_of (Passes t) = 0
refusal_of Beyond = 13
refusal_of (Over t) = 14
