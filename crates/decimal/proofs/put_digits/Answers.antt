use native.Mathlib.Omega.{arith}
use mathlib.Core.Path.{◌≡◌, refl, sym, ap, subst, ◌∙◌}
use mathlib.Core.List.{List, [], ◌∷◌, ◌++◌, append-nil}
use Prim.Native.Nat.{ℕ, zero, suc, ◌-◌, ◌/◌, ◌%◌, ◌≤◌, ◌<◌}
use lib.ListN.{length, take, drop, set, length-set}
use lib.Seq.{slice, slice_empty, length-take-le, take-set-lt, drop-set-lt, append_snoc}
use native.Mathlib.Nat.{le_refl, le_of_suc-le-suc, not-suc-le-zero}
use native.Mathlib.Numerals.{sub-one}
use Rattle.decimal.specs.Decimal.{digit}
use Rattle.decimal.specs.Digits.{last_digits}
use Rattle.decimal.proofs.put_digits.Goals as goal

-- after a store at j, the list from j on begins with what was stored
drop-set : (t : List ℕ) (j g : ℕ) → j < length t → drop j (set t j g) ≡ g ∷ drop (suc j) t
drop-set [] j g h = absurd (not-suc-le-zero h)
drop-set (x ∷ xs) zero g h = refl
drop-set (x ∷ xs) (suc j) g h = drop-set xs j g (le_of_suc-le-suc h)

-- a turn moves the last of the digits that are still to be put to the front of those that are
digits_step : (i k rest g : ℕ) (room : List ℕ) → 0 < i → i ≤ k → k ≤ length room → g ≡ digit (rest % 10)
    → last_digits (i - 1) (rest / 10) ++ slice (i - 1) k (set room (i - 1) g) ≡ last_digits i rest ++ slice i k room
digits_step zero k rest g room some h fits e = absurd (not-suc-le-zero some)
digits_step (suc j) k rest g room some h fits e =
    let todo = last_digits j (rest / 10) in
    let done = slice (suc j) k room in
    let within : j < length (take k room) = subst (λ (n : ℕ). j < n) (sym (length-take-le k room fits)) h in
    ap (λ (m : ℕ). last_digits m (rest / 10) ++ slice m k (set room m g)) (sub-one (suc j))
    ∙ ap (λ (l : List ℕ). todo ++ drop j l) (take-set-lt k room j g h)
    ∙ ap (λ (l : List ℕ). todo ++ l) (drop-set (take k room) j g within)
    ∙ ap (λ (x : ℕ). todo ++ x ∷ done) e
    ∙ sym (append_snoc todo (digit (rest % 10)) done)

pub loop-left-init : goal.loop-left-init
loop-left-init c =
    let a = c.args in
    let all = last_digits a.count a.number in
    (refl, le_refl a.count, ap (λ (l : List ℕ). all ++ l) (slice_empty a.count a.room.now) ∙ append-nil all, refl)

pub loop-left-preserved : goal.loop-left-preserved
loop-left-preserved c =
    let l = c.loop-left in
    let a = c.args in (
      simp length-set l.invariant.0,
      omega arith,
      digits_step l.left a.count l.rest _ l.room c.loop-left-test.true l.invariant.1 (omega arith) refl ∙ l.invariant.2,
      drop-set-lt a.count l.room (l.left - 1) _ (omega arith) ∙ l.invariant.3,
    )
