-- An accepted close is explained by what the account had before it, and the next day begins with an empty table.
use Rattle.desk.specs.FollowLaws.{followable-sound}
use Rattle.explaining.specs.StateLaws.{further-on}
use Rattle.explaining.specs.FollowedLaws.{followed-further, followed-on, followed-closing, closed-followable, explained-long, explained-table}
use Rattle.explaining.proofs.followed.take_close.Goals as goal

pub standing_of-before-requires : goal.standing_of-before-requires
standing_of-before-requires c = followable-sound c.requires.followable

pub unpaid_of-unpaid-requires : goal.unpaid_of-unpaid-requires
unpaid_of-unpaid-requires c = followable-sound c.requires.followable

pub returns-in_default : goal.returns-in_default
returns-in_default c = record {
  followable_2 = followed-on c.follow.ensures c.in_ok-taken.was c.requires.followable;
  further = further-on (followed-further c.follow.ensures c.in_ok-taken.was (λ i. (c.type_inv.bytes i).fits));
}

pub close_lines-lines-requires : goal.close_lines-lines-requires
close_lines-lines-requires c =
    followed-closing c.follow.ensures c.in_ok-taken.was c.requires.followable c.in-Closed.is c.standing_of-before.ensures

pub explained-found-requires-clause-sound : goal.explained-found-requires-clause-sound
explained-found-requires-clause-sound c = followable-sound (followed-on c.follow.ensures c.in_ok-taken.was c.requires.followable)

pub explained-found-requires-clause-rows_in_bounds : goal.explained-found-requires-clause-rows_in_bounds
explained-found-requires-clause-rows_in_bounds c =
    let closing =
    followed-closing c.follow.ensures c.in_ok-taken.was c.requires.followable c.in-Closed.is c.standing_of-before.ensures in
    explained-table c.close_lines-lines.ensures closing

pub returns-clause-followable_2 : goal.returns-clause-followable_2
returns-clause-followable_2 c =
    let closing =
    followed-closing c.follow.ensures c.in_ok-taken.was c.requires.followable c.in-Closed.is c.standing_of-before.ensures in
    rw c.first_state.ensures
    (closed-followable c.follow.ensures c.in_ok-taken.was c.requires.followable c.in-Closed.is
    (explained-long c.close_lines-lines.ensures closing))

pub returns-clause-further : goal.returns-clause-further
returns-clause-further c = further-on (followed-further c.follow.ensures c.in_ok-taken.was (λ i. (c.type_inv.bytes i).fits))
