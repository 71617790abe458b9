use mathlib.Core.Path.{ap, ◌∙◌}
use Rattle.standing.specs.SoundLaws.{sound-long}
use Rattle.particulars.specs.Carried.{stood}
use Rattle.particulars.specs.CarriedLaws.{standing-is}
use Rattle.particulars.proofs.standing_of.Goals as goal

pub stood-requires : goal.stood-requires
stood-requires c = sound-long c.requires

pub returns : goal.returns
returns c =
    c.stood.ensures
    ∙ ap (stood c.args.counts.now c.args.money.now) c.positions_of-positions.ensures
    ∙ standing-is c.requires c.args.number
