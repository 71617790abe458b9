-- A number behind a space.
use mathlib.Core.Path.{◌≡◌, sym, ◌∙◌}
use mathlib.Core.Bool.{false≢true}
use mathlib.Core.List.{[], ◌∷◌, ◌++◌}
use Prim.Native.Nat.{◌+◌}
use lib.ListN.{drop}
use Rattle.lists.specs.Parts.{part-rest}
use Rattle.wording.specs.Text.{value_text}
use Rattle.wording.specs.declared.values.Style.TheVariants.{Plain}
use Rattle.parsing.specs.PlaceLaws.{word_stands, ends-within, labelled, unlabelled}
use Rattle.parsing.proofs.parts.exception_at.Goals as goal
use Rattle.parsing.proofs.parts.exception_at.Goals.{Else-not-begins_with}

-- the space stands at the place
space : (c : Else-not-begins_with) → let a = c.args in
    drop a.at a.line.now ≡ (32 ∷ []) ++ drop (a.at + 1) a.line.now
space c =
    let a = c.args in
    word_stands a.line.now (32 ∷ []) _ a.at (part-rest a.at a.line.now) (c.begins_with.ensures.0 (c.if-not-begins_with.false))

pub returns-then-not-begins_with : goal.returns-then-not-begins_with
returns-then-not-begins_with c =
    unlabelled (32 ∷ []) (value_text Plain) c.args.line.now c.args.at c.requires
    (λ rest e. false≢true (sym c.if-not-begins_with.true ∙ c.begins_with.ensures.1 rest (part-rest c.args.at c.args.line.now ∙ e)))

pub value_at-requires : goal.value_at-requires
value_at-requires c = ends-within c.args.line.now (32 ∷ []) _ c.args.at c.requires (space c)

pub returns : goal.returns
returns c =
    labelled (32 ∷ []) (value_text Plain) c.args.line.now c.args.at _ (space (goal.at.returns c).Else-not-begins_with) c.requires c.value_at.ensures
