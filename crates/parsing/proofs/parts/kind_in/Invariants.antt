use Rattle.std.proofs.Common.{◌≡◌, ℕ, ◌<◌}
use Rattle.wording.specs.Words.{word_of}
use Rattle.parsing.proofs.parts.kind_in.Given as goal

-- no kind passed so far has this word
abbrev pub invariant-loop-kind : goal.invariant-loop-kind
invariant-loop-kind l = (k : ℕ) → k < l.kind → l.word ≡ word_of k → ⊥
