use mathlib.Core.Path.{ap, ◌∙◌}
use Rattle.standing.specs.SoundLaws.{sound-long}
use Rattle.reports.specs.Reports.{lowest_from}
use Rattle.reports.specs.ShownLaws.{sound-settled, codes-are}
use Rattle.reports.proofs.settled_code_from.Goals as goal

pub lowest_code-requires : goal.lowest_code-requires
lowest_code-requires c = let s = c.requires in ((sound-long s).counts, sound-settled s)

pub returns : goal.returns
returns c = c.lowest_code.ensures ∙ ap (lowest_from c.args.code) (codes-are c.requires)
