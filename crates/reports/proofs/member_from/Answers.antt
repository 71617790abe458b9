use mathlib.Core.Path.{ap, ◌∙◌}
use Rattle.standing.specs.SoundLaws.{sound-long, sound-members}
use Rattle.reports.specs.Reports.{lowest_from}
use Rattle.reports.specs.ShownLaws.{members-are}
use Rattle.reports.proofs.member_from.Goals as goal

pub lowest_member-requires : goal.lowest_member-requires
lowest_member-requires c = let s = c.requires in ((sound-long s).counts, sound-members s)

pub returns : goal.returns
returns c = c.lowest_member.ensures ∙ ap (lowest_from c.args.number) (members-are c.requires)
