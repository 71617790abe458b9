use mathlib.Core.Path.{ap, ◌∙◌}
use native.Mathlib.Omega.{arith}
use Rattle.lists.specs.Tabulate.{tab-length}
use Rattle.standing.specs.WalkLaws.{walks-none, walks_more}
use Rattle.standing.specs.OpenRows.{relisted}
use Rattle.opening.specs.Putting.{still-long}
use Rattle.opening.proofs.members.relist_members.Goals as goal

pub loop-i-init : goal.loop-i-init
loop-i-init c = (c.requires.0, walks-none _ _ (relisted c.args.places))

pub loop-i-preserved : goal.loop-i-preserved
loop-i-preserved c =
    let did = c.relisted.ensures ∙ ap (relisted c.args.places) c.load_account-a.ensures in
    let put = c.store_account in (
      still-long c.loop-i.invariant.0 put.auto.counts put.auto.money,
      walks_more _ _ _ c.loop-i.i (λ b h. tab-length _ 6) c.loop-i.invariant.1 (omega (arith, c.requires.1)) did put.ensures.0 put.ensures.1,
    )
