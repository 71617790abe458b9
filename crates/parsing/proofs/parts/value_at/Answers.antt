-- The guess is taken where its text is the word, and nowhere else.
use mathlib.Core.Path.{sym, ◌∙◌}
use mathlib.Core.Bool.{false≢true}
use Rattle.parsing.specs.PlaceLaws.{value_taken, value-refused}
use Rattle.parsing.proofs.parts.value_at.Goals as goal

pub returns-then-is_value : goal.returns-then-is_value
returns-then-is_value c =
    value_taken c.args.style c.args.line.now c.args.at c.byte_end-end.result c.guess-value.result c.requires
    c.byte_end-end.ensures.0 c.byte_end-end.ensures.1 c.byte_end-end.ensures.2 c.guess-value.ensures (c.is_value.ensures.0 c.if-is_value.true)

pub returns : goal.returns
returns c =
    value-refused c.args.style c.args.line.now c.args.at c.byte_end-end.result c.guess-value.result c.requires
    c.byte_end-end.ensures.0 c.byte_end-end.ensures.1 c.byte_end-end.ensures.2 c.guess-value.ensures
    (λ e. false≢true (sym c.if-is_value.false ∙ c.is_value.ensures.1 e))
