-- The exceptions rise where each is below the next.
use Rattle.std.proofs.Common.{◌≡◌, sym, Bool, ℕ, List, true, false, ltb, rules}
use Rattle.std.specs.List.{IsAllAdjacentAnswer}
use Rattle.std.proofs.lemmas.List.Sorted.{answers_always}
use Rattle.days.specs.Days.{rising}
use Rattle.days.specs.DayLaws.{rising-each, rising-broken}
use Rattle.days.proofs.are_rising.Goals as goal

tells : (e : List ℕ) (r : Bool) → IsAllAdjacentAnswer (λ x y b. b ≡ ltb x y) e r → r ≡ rising e
tells e true h = sym (rising-each e (λ k a. sym (h k 0 a)))
tells e false h = sym (rising-broken e h.0 h.1 (sym (h.2 0)))

pub returns : goal.returns
returns c = tells _ _ (c.is_sorted_by.ensures.cases ltb (answers_always _ _ _ (λ f a r q k. search rules)))
