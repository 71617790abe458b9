use mathlib.Core.Path.{ap, ◌∙◌}
use lib.IntN.{ℤ, pos, neg_ℤ, ◌-ℤ◌, +ℤ_idl}
use Rattle.whole.specs.Within.{lit}
use Rattle.whole.specs.Machine.{Got, got, now, unsigned, sub, kept}
use Rattle.model.specs.Calls.{Trade}
use Rattle.desk.specs.Follows.{trade_in, row_with}
use Rattle.desk.specs.FollowLaws.{bought-tabled, sold-tabled}
use Rattle.desk.proofs.following.note_trade.Goals as goal
use Rattle.desk.proofs.following.note_trade.Goals.{Start}

abbrev deal : Start → Trade
deal s = trade_in s.args.fields

-- the lots of a sale
abbrev below : (s : Start) → Got 1000 (pos 0 -ℤ pos (deal s).lots)
below s = got (sub (now (lit (pos 0))) (unsigned s.requires.notable.1 tt))

pub returns-then-account-fields : goal.returns-then-account-fields
returns-then-account-fields c =
    bought-tabled c.args.account (deal (goal.at.returns-then-account-fields c).Start) c.args.buyer c.args.seller
    c.if-account-fields.true
    (c.row_with-row.ensures ∙ ap (λ (z : ℤ). row_with (deal (goal.at.returns-then-account-fields c).Start) (deal (goal.at.returns-then-account-fields c).Start).seller z c.args.buyer) (unsigned c.requires.notable.1 tt).eq)
    c.store_row.ensures

pub returns-then-account-fields-2 : goal.returns-then-account-fields-2
returns-then-account-fields-2 c =
    sold-tabled c.args.account (deal (goal.at.returns-then-account-fields-2 c).Start) c.args.buyer c.args.seller
    c.if-account-fields.false
    c.if-account-fields-2.true
    (c.row_with-row-then-account-fields-2.ensures
    ∙ ap (λ (z : ℤ). row_with (deal (goal.at.returns-then-account-fields-2 c).Start) (deal (goal.at.returns-then-account-fields-2 c).Start).buyer z c.args.seller) ((kept (below (goal.at.returns-then-account-fields-2 c).Start).reads tt).eq ∙ +ℤ_idl (neg_ℤ (pos (deal (goal.at.returns-then-account-fields-2 c).Start).lots))))
    c.store_row-then-account-fields-2.ensures
