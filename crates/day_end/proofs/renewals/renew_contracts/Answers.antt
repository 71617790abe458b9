use mathlib.Core.Path.{◌∙◌}
use native.Mathlib.Omega.{arith}
use Rattle.memory.specs.Layout.{Long}
use Rattle.day_end.specs.TurnLaws.{renewed-step, renewed-end}
use Rattle.day_end.proofs.renewals.renew_contracts.Goals as goal

pub loop-k-preserved : goal.loop-k-preserved
loop-k-preserved c =
    let l = c.loop-k in
    let ended = c.args.ended in
    let long : Long _ _ = record {
      counts = c.store_contract.auto.counts ∙ l.invariant.0.counts;
      money = c.store_contract.auto.money ∙ l.invariant.0.money;
    } in (
      long,
      λ r w.
          let now = l.invariant.1 r w in
          renewed-step ended r w.shaped l.k (omega arith) now
          (c.renewed_at-x.ensures _ now)
          c.store_contract.ensures.0
          c.store_contract.ensures.1,
    )

pub returns : goal.returns
returns c r w =
    let l = c.loop-k in
    renewed-end c.args.ended r w.shaped l.k (omega arith) (l.invariant.1 r w)
