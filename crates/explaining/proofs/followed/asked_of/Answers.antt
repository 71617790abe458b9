-- A trade whose fields passed is in range.
use Rattle.std.specs.Prelude.{[]}
use Rattle.std.proofs.Common.{sym, ◌∙◌}
use Rattle.explaining.specs.FollowedLaws.{good-trade}
use Rattle.explaining.proofs.followed.asked_of.Goals as goal

pub side_asked-requires : goal.side_asked-requires
side_asked-requires c =
    let passed = sym c.in_range.ensures ∙ c.in-Ok.is in
    (c.requires, rw c.deal_in.ensures (good-trade c.args.fields [] passed))
