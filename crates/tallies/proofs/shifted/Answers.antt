use Rattle.tallies.proofs.TallyLaws.{shifted-is}
use Rattle.tallies.proofs.shifted.Goals as goal

pub returns : goal.returns
returns c = let s = c.before.before.before.before in shifted-is s.args.a s.args.x s.requires
