-- What a close makes of what an account holds, what it then requires, and the core.
use Rattle.std.specs.Prelude.{cond, ℕ, ℤ, pos, ◌+ℤ◌, ◌-ℤ◌, ◌*ℤ◌}
use Rattle.std.specs.Int.Signed.{le_z}
use Rattle.whole.specs.Larger.{larger, smaller}
use Rattle.whole.specs.Round.{hundredth_up}
use Rattle.totals.specs.Totals.{total}
use Rattle.booking.specs.Variation.{variation}
use Rattle.booking.specs.Carried.{all_carried}
use Rattle.holdings.specs.Holdings.{basis}
use Rattle.holdings.specs.declared.Holdings.{Holdings}
use Rattle.closing.specs.declared.DayEnd.{DayEnd}

-- Document 01, Close, in order: "limits set since the last close come into force; rates; variation per account and contract ..;
-- an ending contract's positions become zero; then day-end total at the positions left".
unfoldable pub at_close : DayEnd → Holdings → Holdings
at_close d h = record {
  limits = h.coming;
  coming = h.coming;
  core = h.core;
  special = h.special;
  dayend = total (all_carried h.positions d.marks) d.margins;
  variation = variation h.positions d.marks;
  positions = all_carried h.positions d.marks;
}

-- "over-limit = max(total - clearing limit x reference rate, 0) x multiplier / 100, rounded up"
unfoldable pub over_limit : ℤ → ℤ → ℕ → ℤ
over_limit total basis multiplier = hundredth_up (larger (total -ℤ basis) (pos 0) *ℤ pos multiplier)

-- "requirement = clearing limit x reference rate + over-limit + special margin"
unfoldable pub requirement : Holdings → ℕ → ℕ → ℤ
requirement h reference multiplier =
    (basis h.limits reference +ℤ over_limit h.dayend (basis h.limits reference) multiplier) +ℤ h.special

-- ---- the core
-- "max(clearing limit x reference rate, total)"
abbrev pub full_core : Holdings → ℕ → ℤ
full_core h reference = larger (basis h.limits reference) h.dayend

unfoldable pub with_core : Holdings → ℤ → Holdings
with_core h core = record {
  limits = h.limits;
  coming = h.coming;
  core = core;
  special = h.special;
  dayend = h.dayend;
  variation = h.variation;
  positions = h.positions;
}

-- "core = max(clearing limit x reference rate, total) if free is 0 or more, else the smaller of that and the old core"
abbrev pub core_by : Holdings → ℕ → ℤ → ℤ
core_by h reference free = cond (le_z (pos 0) free) (full_core h reference) (smaller (full_core h reference) h.core)

abbrev pub with_core_by : Holdings → ℕ → ℤ → Holdings
with_core_by h reference free = with_core h (core_by h reference free)
