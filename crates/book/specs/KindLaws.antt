-- What the range check and a record's kind say of its call.
use Rattle.std.specs.Prelude.{◌≡◌, refl, Bool, true, false, cond, List, [], ℕ, zero, suc, ◌-◌, ◌≤◌, ℤ, pos, Ok, Err}
use Rattle.std.proofs.Common.{ap, subst, suc-ne-zero, arith}
use Rattle.std.proofs.Math.Decide.{dec_le}
use Rattle.whole.specs.Within.{zbound}
use Rattle.whole.specs.Amounts.{Amount}
use Rattle.ranges.specs.declared.OutOfRange.{OutOfRange}
use Rattle.ranges.specs.Ranges.{in_range, checked, number_of, refusal_of}
use Rattle.records.specs.Records.{entry}
use Rattle.model.specs.Book.{Book}
use Rattle.model.specs.Calls.{Opening, opening, call_of}
use Rattle.model.specs.Answers.{done, accepts}
use Rattle.model.specs.Ranged.{Ranged}
use Rattle.standing.specs.Made.{Sound}
use Rattle.book.specs.declared.calls.Answer.TheVariants.{Refused}
use Rattle.book.specs.Called.{Called}
use Rattle.book.specs.CalledLaws.{unranged-called}

-- the calls of the first kinds answer no more than that they are done, and none is an open
pub first_done : (b : Book) (kind : ℕ) (fields x : List ℕ) → kind ≤ 6
    → (accepts b (call_of (entry kind fields x)) ≡ done)
    × ((o : Opening) → call_of (entry kind fields x) ≡ opening o → ⊥)
unfolding call_of
first_done b zero f x h = (refl, λ o q. suc-ne-zero 0 cc)
first_done b (suc zero) f x h = (refl, λ o q. suc-ne-zero 0 cc)
first_done b (suc (suc zero)) f x h = (refl, λ o q. suc-ne-zero 0 cc)
first_done b (suc (suc (suc zero))) f x h = (refl, λ o q. suc-ne-zero 0 cc)
first_done b (suc (suc (suc (suc zero)))) f x h = (refl, λ o q. suc-ne-zero 0 cc)
first_done b (suc (suc (suc (suc (suc zero))))) f x h = (refl, λ o q. suc-ne-zero 0 cc)
first_done b (suc (suc (suc (suc (suc (suc zero)))))) f x h = (refl, λ o q. suc-ne-zero 0 cc)
first_done b (suc (suc (suc (suc (suc (suc (suc n))))))) f x h = absurd (omega arith)

-- only a start has exceptions
pub later_same : (kind : ℕ) (fields x : List ℕ) → 7 ≤ kind → call_of (entry kind fields x) ≡ call_of (entry kind fields [])
unfolding call_of
later_same zero f x h = absurd (omega arith)
later_same (suc n) f x h = refl

-- a record in range has a known kind
pub kind-most : (kind : ℕ) (fields x : List ℕ) → Ranged (call_of (entry kind fields x)) → kind ≤ 12
unfolding call_of
kind-most kind fields x r = go (dec_le kind 12)
  where
    go : Dec (kind ≤ 12) → kind ≤ 12
    go (yes h) = h
    go (no h) =
        let past : kind ≡ suc (suc (suc (suc (suc (suc (suc (suc (suc (suc (suc (suc (suc (kind - 13))))))))))))) = omega arith in
        absurd (subst (λ k. Ranged (call_of (entry k fields x))) past r)

-- ---- the range check
pub amount-most : {B n : ℕ} → Amount B (pos n) → n ≤ B
amount-most {B} {n} a = let most = a.most in omega zbound

-- "2 | field out of range, or exceptions not rising"
pub checked_refused : {counts : List ℕ} {money : List ℤ} (s : Sound counts money) (kind : ℕ) (fields x : List ℕ) {why : OutOfRange}
    → checked kind fields x ≡ Err why → Called counts money (entry kind fields x) (Refused (number_of why)) counts money
checked_refused {counts} {money} s kind f x {why} e = go (in_range kind f x) refl e
  where
    go : (t : Bool) → in_range kind f x ≡ t → cond t (Ok (tt {0})) (Err (record {})) ≡ Err why
        → Called counts money (entry kind f x) (Refused (number_of why)) counts money
    go true q p = let z : ◌≡◌ {A = ℕ} 0 1 = cc in absurd (omega arith)
    go false q p = unranged-called s (entry kind f x) (ap (λ t. refusal_of (cond t (Ok (tt {0})) (Err (record {})))) q)
