use Rattle.std.specs.Prelude.{Option, Some, None}
use mathlib.Core.Path.{◌≡◌, sym, ◌∙◌}
use Prim.Native.Nat.{ℕ, zero, suc, ◌+◌, ◌*◌, ◌-◌, ◌≤◌, ◌<◌}
use native.Mathlib.Nat.{sub-zero}
use native.Mathlib.Omega.{arith}
use borrow.Author.Rules.{rules}
use borrow.Author.Tests.{tests}
use lib.ListN.{get_or}
use Rattle.std.specs.Option.{MatchOption}
use Rattle.std.proofs.Common.{add-one}
use Rattle.std.proofs.lemmas.Iterator.{first_from_Range}
use Rattle.lists.specs.Seek.{seek, seek_hit, seek-miss, seek-none}
use Rattle.memory.proofs.searches.find.Goals as goal
use Rattle.memory.proofs.searches.find.Goals.{After-find}

-- where the search stops, and that no row before that has the key
first : (c : After-find) →
    let a = c.args in
    let has = λ (i : ℕ). get_or a.counts.now (a.first + i * a.width) 0 ≡ a.key in
    MatchOption c.find.result ((k : ℕ) → 0 ≤ k → k < a.rows → has k → ⊥)
    (λ i. (0 ≤ i) × (i < a.rows) × has i × ((k : ℕ) → 0 ≤ k → k < i → has k → ⊥))
first c = first_from_Range _ _ _ c.find.result _ _ c.find.ensures.ran (λ x q k. search (rules, tests)) (λ x q k. search (rules, tests))

-- what the places before i don't hold is looked for from i on
passed : (at : ℕ → ℕ) (n rows i : ℕ) → i ≤ rows → ((k : ℕ) → 0 ≤ k → k < i → at k ≡ n → ⊥) → seek at n rows 0 ≡ seek at n (rows - i) i
passed at n rows zero h miss = rw (sub-zero rows)
passed at n rows (suc i) h miss =
    passed at n rows i (omega arith) (λ k p q. miss k p (omega arith))
    ∙ (rw add-one at (seek-miss at n rows i (omega arith) (miss i (omega arith) (omega arith))))

found : (at : ℕ → ℕ) (key rows : ℕ) (r : Option ℕ)
    → MatchOption r ((k : ℕ) → 0 ≤ k → k < rows → at k ≡ key → ⊥)
    (λ i. (0 ≤ i) × (i < rows) × (at i ≡ key) × ((k : ℕ) → 0 ≤ k → k < i → at k ≡ key → ⊥))
    → r ≡ seek at key rows 0
found at key rows (Some i) f = sym (passed at key rows i (omega (arith, f.1)) f.3 ∙ seek_hit at key rows i f.1 f.2)
found at key rows None f = sym (passed at key rows rows (omega arith) f ∙ seek-none at key rows rows (omega arith))

pub returns : goal.returns
returns c =
    let a = c.args in
    found (λ i. get_or a.counts.now (a.first + i * a.width) 0) a.key a.rows c.find.result (first c)
