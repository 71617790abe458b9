-- Behind a minus sign the size is that of the rest.
use mathlib.Core.Path.{◌≡◌, sym, ap, ◌∙◌}
use Prim.Native.Nat.{◌≤◌}
use Prim.Native.Nat.{◌+◌}
use native.Mathlib.Omega.{arith}
use borrow.Author.Tests.{eq-eqb, ne_eqb}
use lib.ListN.{length}
use Rattle.lists.specs.HasLaws.{when_true, when_false}
use Rattle.lists.specs.Parts.{part-rest}
use Rattle.parsing.specs.Guess.{size_in, doubled, lowered, rate_in}
use Rattle.parsing.specs.GuessLaws.{some-behind}
use Rattle.parsing.proofs.guessing.rate_in.Goals as goal
use Rattle.parsing.proofs.guessing.rate_in.Goals.{Then-byte_at-eq45}

behind : (c : Then-byte_at-eq45) → 1 ≤ length c.args.word.now
behind c = some-behind c.args.word.now (sym c.byte_at.ensures ∙ c.if-byte_at-eq45.true)

pub slice_bounds-size_in-count : goal.slice_bounds-size_in-count
slice_bounds-size_in-count c = omega (arith, behind c)

pub returns-then-size-eq0 : goal.returns-then-size-eq0
returns-then-size-eq0 c =
    let below : let word = c.args.word.now in rate_in word ≡ lowered c.size_in-size.result =
    let word = c.args.word.now in
    when_true _ _ (eq-eqb _ 45 (sym c.byte_at.ensures ∙ c.if-byte_at-eq45.true))
    ∙ ap lowered (sym (c.size_in-size.ensures ∙ ap size_in (part-rest 1 word))) in
    sym (below ∙ when_true _ _ (eq-eqb _ 0 c.if-size-eq0.true))

pub returns-then-byte_at-eq45 : goal.returns-then-byte_at-eq45
returns-then-byte_at-eq45 c =
    let below : let word = c.args.word.now in rate_in word ≡ lowered c.size_in-size.result =
    let word = c.args.word.now in
    when_true _ _ (eq-eqb _ 45 (sym c.byte_at.ensures ∙ c.if-byte_at-eq45.true))
    ∙ ap lowered (sym (c.size_in-size.ensures ∙ ap size_in (part-rest 1 word))) in
    ap (λ k. k + 1) c.doubled.ensures.0 ∙ sym (below ∙ when_false _ _ (ne_eqb _ 0 c.if-size-eq0.false))

pub returns : goal.returns
returns c =
    c.doubled-2.ensures.0
    ∙ ap doubled c.size_in.ensures
    ∙ sym (when_false _ _ (ne_eqb _ 45 (λ e. c.if-byte_at-eq45.false (c.byte_at.ensures ∙ e))))
