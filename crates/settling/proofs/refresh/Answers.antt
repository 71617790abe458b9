use Rattle.model.specs.Calls.{refresh}
use Rattle.standing.specs.SoundLaws.{sound-long}
use Rattle.settling.specs.SettlingLaws.{refresh-asks, refused, accepted}
use Rattle.settling.proofs.refresh.Goals as goal

pub load_header-h-requires : goal.load_header-h-requires
load_header-h-requires c = (sound-long c.requires).counts

pub returns-then-h-ne3 : goal.returns-then-h-ne3
returns-then-h-ne3 c =
    let s = c.requires in
    refused s refresh 3 (refresh-asks s) c.load_header-h.ensures c.if-h-ne3.true

pub returns : goal.returns
returns c =
    let s = c.requires in
    accepted s refresh 3 (refresh-asks s) c.load_header-h.ensures c.if-h-ne3.false c.refresh_members.ensures
