use mathlib.Core.Path.{◌≡◌}
use Prim.Native.Nat.{◌+◌, ◌*◌, ◌<◌}
use native.Mathlib.Omega.{arith}
use borrow.Author.Rules.{rules}
use lib.ListN.{length}
use Rattle.std.proofs.Common.{drop-drop}
use Rattle.std.proofs.lemmas.List.{set_split}
use Rattle.memory.proofs.outcome_rows.store_outcome.Goals as goal

pub returns : goal.returns
returns c =
    let k = c.args.k in
    let money = c.args.money.now in
    let place : k * 1 ≡ k = omega arith in
    let long : 55 + k < length money = omega arith in
    (search rules, rw place (search (rules, set_split money (55 + k) c.args.x.rate long, drop-drop 1 (55 + k) money)))
