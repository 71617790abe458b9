-- However the turns end, the memory is that of some history.
use Rattle.desk.specs.FollowLaws.{followable-sound}
use Rattle.explaining.specs.StateLaws.{carried-sound}
use Rattle.explaining.proofs.run.take_turns.Goals as goal

pub returns-in-Break-Ok : goal.returns-in-Break-Ok
returns-in-Break-Ok g c = carried-sound _ _ _ c.take_turn-turn.result _ _ c.take_turn-turn.ensures

pub returns : goal.returns
returns g c = followable-sound c.loop.invariant.0
