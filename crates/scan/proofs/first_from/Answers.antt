-- The library's `position` finds the first byte that passes; what stands before it is counted by `before`.
use Rattle.std.proofs.Common.{rules, ◌≡◌, Bool, ℕ, refl, sym, true, false, arith, length, drop, length-drop}
use Rattle.std.specs.Option.{unwrap_or}
use Rattle.std.proofs.Math.Numerals.{add-one}
use Rattle.std.proofs.lemmas.Iterator.{YieldsList-from_slice, IsFirst-from_position, index_from_first}
use Rattle.std.proofs.lemmas.Iterator.Adapters.{YieldsList-from_skip}
use Rattle.scan.specs.Text.{before}
use Rattle.scan.proofs.first_from.Goals as goal
use Rattle.scan.proofs.first_from.Goals.{After-position}
use Rattle.scan.proofs.first_from.Given as given

abbrev Tells : (g : given.Over) → After-position g → (ℕ → Bool) → Type 0
Tells g c p = (byte : ℕ) (r : Bool) → goal.F-post g c.args.test byte r → r ≡ p byte

counted : (g : given.Over) (c : After-position g) (p : ℕ → Bool) → Tells g c p → before p (drop c.args.from c.args.text.now) ≡ unwrap_or c.position.result (length (drop c.args.from c.args.text.now))
unfolding before
counted g c p h =
    let found = IsFirst-from_position _ _ c.position.result (λ b. p b ≡ true) (λ b. p b ≡ false) c.position.ensures.ran
    (YieldsList-from_skip c.args.from (YieldsList-from_slice c.args.text.now cc) cc) (λ x q k. search (rules, h)) (λ x q k. search (rules, h)) in
    index_from_first (before p) (λ b. p b ≡ true) (λ b. p b ≡ false) refl (λ x xs e. rw e) (λ x xs e. rw e (sym (add-one _))) (drop c.args.from c.args.text.now) c.position.result found

pub returns-in-Some-clause-first : goal.returns-in-Some-clause-first
returns-in-Some-clause-first g c = λ p h.
    let e = rw c.in-Some.is at (counted g (goal.at.returns-in-Some-clause-first g c).After-position p h) in
    omega (arith, e)

pub returns-clause-first : goal.returns-clause-first
returns-clause-first g c = λ p h.
    let e = rw c.in-None.is at (counted g (goal.at.returns-clause-first g c).After-position p h) in
    omega (arith, e, c.max.ensures, length-drop c.args.from c.args.text.now)
