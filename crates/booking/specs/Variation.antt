-- What a close books. VariationLaws says that what is kept of a day's deals gives what the deals themselves give.
use Rattle.std.specs.Prelude.{List, map, ℤ, pos, ◌+ℤ◌, ◌-ℤ◌, ◌*ℤ◌}
use Rattle.lists.specs.Zipped.{zipped}
use Rattle.whole.specs.Sums.{sum_z}
use Rattle.positions.specs.Deals.{Deal}
use Rattle.positions.specs.declared.Position.{Position}
use Rattle.positions.specs.declared.Mark.{Mark}

-- ---- of the list of today's deals
-- Document 01, Close: "variation per account and contract, 250 x (sum over today's trades of signed lots x (rate - traded
-- rate) + net before today x (rate - previous rate)), buyer positive".
-- Units and ceilings: "one rate unit on one lot is 250 fen exactly".
abbrev pub earned : ℤ → Deal → ℤ
earned rate d = d.lots *ℤ (rate -ℤ d.rate)

unfoldable pub variation_of : List Deal → ℤ → ℤ → ℤ → ℤ
variation_of today before previous rate =
    pos 250 *ℤ (sum_z (map (earned rate) today) +ℤ before *ℤ (rate -ℤ previous))

-- ---- of what the account keeps
unfoldable pub variation_at : Position → Mark → ℤ
variation_at p m =
    pos 250 *ℤ (((p.net -ℤ p.before) *ℤ m.rate -ℤ p.cost) +ℤ p.before *ℤ (m.rate -ℤ m.previous))

-- over all contracts
unfoldable pub variation : List Position → List Mark → ℤ
variation ps marks = sum_z (zipped variation_at ps marks)
