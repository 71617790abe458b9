use Rattle.model.specs.Calls.{settle}
use Rattle.standing.specs.SoundLaws.{sound-long}
use Rattle.settling.specs.SettlingLaws.{settle-asks, refused, accepted}
use Rattle.settling.proofs.settle.Goals as goal

pub load_header-h-requires : goal.load_header-h-requires
load_header-h-requires c = (sound-long c.requires).counts

pub returns-then-h-ne2 : goal.returns-then-h-ne2
returns-then-h-ne2 c =
    let s = c.requires in
    refused s settle 2 (settle-asks s) c.load_header-h.ensures c.if-h-ne2.true

pub returns : goal.returns
returns c =
    let s = c.requires in
    accepted s settle 2 (settle-asks s) c.load_header-h.ensures c.if-h-ne2.false c.settle_members.ensures
