-- A new book and an empty table are those of no calls.
use Rattle.std.proofs.Common.{rules}
use Rattle.explaining.specs.FollowedLaws.{fresh-followable}
use Rattle.explaining.proofs.run.explain_within.Goals as goal

pub take_turns-outcome-requires-clause-followable : goal.take_turns-outcome-requires-clause-followable
take_turns-outcome-requires-clause-followable g c = fresh-followable c.args.q.account c.requires (search rules) (search rules)
