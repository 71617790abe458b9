-- A record that was followed brings the place on.
use Rattle.desk.specs.FollowLaws.{followable-sound}
use Rattle.explaining.specs.StateLaws.{further-on}
use Rattle.explaining.specs.FollowedLaws.{followed-further, followed-on}
use Rattle.explaining.proofs.followed.take_call.Goals as goal

pub notes_after-s-requires : goal.notes_after-s-requires
notes_after-s-requires c = followable-sound (followed-on c.follow.ensures c.in_ok-taken.was c.requires.followable)

pub returns-clause-followable_2 : goal.returns-clause-followable_2
returns-clause-followable_2 c = followed-on c.follow.ensures c.in_ok-taken.was c.requires.followable

pub returns-clause-further : goal.returns-clause-further
returns-clause-further c = further-on (followed-further c.follow.ensures c.in_ok-taken.was (λ i. (c.type_inv.bytes i).fits))
