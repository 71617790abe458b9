-- No kind passed so far has this word.
use Rattle.std.proofs.Common.{sym, ◌∙◌, below_more, arith}
use Rattle.std.proofs.lemmas.Bool.{false≢true}
use Rattle.parsing.proofs.parts.kind_in.Goals as goal

pub loop-kind-preserved : goal.loop-kind-preserved
loop-kind-preserved c = below_more _ _ c.loop-kind.invariant (λ e. false≢true (sym c.if-is_kind.false ∙ c.is_kind.ensures.1 e))

pub returns : goal.returns
returns c = λ k h e. c.loop-kind.invariant k (omega arith) e
