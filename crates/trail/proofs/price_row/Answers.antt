use mathlib.Core.Path.{◌≡◌, sym, ap, subst, ◌∙◌}
use mathlib.Core.Bool.{true, false}
use borrow.Author.Tests.{eq-eqb, ne_eqb}
use lib.Dec.{eqb}
use lib.ListN.{set}
use mir.Syntax.{w64}
use mir.Val.{to_z, of_z}
use Rattle.lists.specs.HasLaws.{when_true, when_false}
use Rattle.whole.specs.Machine.{told, arg, pass}
use Rattle.trail.specs.declared.Row.{Row}
use Rattle.trail.specs.Rows.{row_at, worth}
use Rattle.trail.specs.Tables.{Modest}
use Rattle.trail.proofs.price_row.Goals as goal
use Rattle.trail.proofs.price_row.Goals.{After-load_row-row, After-worth-amount}

-- the row as it was read
modest : (c : After-load_row-row) → Modest c.load_row-row.result
modest c = subst Modest (sym c.load_row-row.ensures) c.requires.within.1

pub worth-amount-requires : goal.worth-amount-requires
worth-amount-requires c =
    (pass (modest (goal.at.worth-amount-requires c).After-load_row-row).lots tt tt, (pass (modest (goal.at.worth-amount-requires c).After-load_row-row).rate tt tt, pass c.requires.within.0 tt tt))

-- what the call answers is what the row's trade earns
amount : (c : After-worth-amount)
    → let a = c.args in
    to_z w64 (of_z w64 c.worth-amount.result) ≡ worth a.rate (row_at a.counts.now a.money.now a.i)
amount c =
    told c.worth-amount.result c.worth-amount.type_inv
    ∙ c.worth-amount.ensures
    ∙ rw ((arg c.requires.within.0 tt).eq, (arg (modest (goal.at.After-worth-amount c).After-load_row-row).lots tt).eq, (arg (modest (goal.at.After-worth-amount c).After-load_row-row).rate tt).eq)
    (ap (worth c.args.rate) c.load_row-row.ensures)

pub returns-then-code-row : goal.returns-then-code-row
returns-then-code-row c =
    let a = c.args in
    let same : eqb a.code (row_at a.counts.now a.money.now a.i).code ≡ true =
    eq-eqb _ _ (c.if-code-row.true ∙ ap (λ (r : Row). r.code) c.load_row-row.ensures) in
    record { value = amount (goal.at.returns-then-code-row c).After-worth-amount ∙ sym (when_true _ _ same); money_after = ap (set a.money.now _) (amount (goal.at.returns-then-code-row c).After-worth-amount) ∙ sym (when_true _ _ same) }

pub returns-else-code-row : goal.returns-else-code-row
returns-else-code-row c =
    let a = c.args in
    let other : eqb a.code (row_at a.counts.now a.money.now a.i).code ≡ false =
    ne_eqb _ _ (λ e. c.if-code-row.false (e ∙ sym (ap (λ (r : Row). r.code) c.load_row-row.ensures))) in
    record { value = sym (when_false _ _ other); money_after = sym (when_false _ _ other) }
