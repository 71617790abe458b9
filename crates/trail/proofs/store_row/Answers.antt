use Prim.Native.Nat.{◌*◌}
use Rattle.std.proofs.Common.{rules, ◌≡◌, ◌∙◌, to_z, of_z}
use mathlib.Core.List.{[], ◌∷◌}
use lib.IntN.{ℤ}
use mir.Syntax.{w64}
use Rattle.lists.specs.Parts.{part-width}
use Rattle.trail.specs.declared.Row.{Row}
use Rattle.trail.specs.Rows.{row_money}
use Rattle.trail.specs.TableLaws.{stored}
use Rattle.trail.proofs.store_row.Goals as goal

-- six cells that are a row's amounts
all-six : (r : Row) {a b c d e f : ℤ} → a ≡ r.lots → b ≡ r.rate → c ≡ r.before → d ≡ r.after → e ≡ r.limit → f ≡ r.amount
    → a ∷ b ∷ c ∷ d ∷ e ∷ f ∷ [] ≡ row_money r
all-six r h i j k l m = rw (h, i, j, k, l, m)

pub returns : goal.returns
returns c =
    let i = c.args.i in
    let r = c.args.row in
    let lots : to_z w64 (of_z w64 r.lots) ≡ r.lots = search rules in
    let rate : to_z w64 (of_z w64 r.rate) ≡ r.rate = search rules in
    let before : to_z w64 (of_z w64 r.before) ≡ r.before = search rules in
    let after : to_z w64 (of_z w64 r.after) ≡ r.after = search rules in
    let limit : to_z w64 (of_z w64 r.limit) ≡ r.limit = search rules in
    let amount : to_z w64 (of_z w64 r.amount) ≡ r.amount = search rules in
    let cells = c.copy_from_slice-2.ensures.after ∙ all-six r lots rate before after limit amount in
    rw (c.copy_from_slice.ensures.after, cells, part-width (i * 3) 3, part-width (i * 6) 6)
    (stored c.args.counts.now c.args.money.now i r c.requires.0 c.requires.1)
