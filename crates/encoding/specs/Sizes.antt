-- How long some numbers are as bytes, step by step.
use Rattle.std.specs.Prelude.{◌≡◌, List, [], ◌∷◌, ◌++◌, ℕ, ◌+◌, ◌*◌, ◌≤◌, ◌<◌, length, get_or, take, drop, sum_by}
use Rattle.std.proofs.Common.{refl, ap, ◌∙◌, append-nil, add-one, arith, length-append, take-append-drop, take-suc}
use Rattle.std.proofs.lemmas.List.Sums.{sum_by-cons}
use Rattle.numbers.specs.Seven.{encode}
use Rattle.numbers.specs.SevenLaws.{groups-most}
use Rattle.numbers.specs.Several.{write_of}
use Rattle.numbers.specs.SeveralLaws.{write-append}

write-one : (x : ℕ) → write_of (x ∷ []) ≡ encode x
unfolding write_of
write-one x = append-nil (encode x)

module _ (l : List ℕ) (i : ℕ) (h : i < length l) where
  pub write_step : write_of (take (i + 1) l) ≡ write_of (take i l) ++ encode (get_or l i 0)
  write_step = rw (add-one, take-suc l i 0 h, write-append (take i l) (get_or l i 0 ∷ []), write-one (get_or l i 0))

  pub size_step : length (write_of (take (i + 1) l)) ≡ length (write_of (take i l)) + length (encode (get_or l i 0))
  size_step = ap length write_step ∙ length-append (write_of (take i l)) (encode (get_or l i 0))

pub size-part : (l : List ℕ) (i : ℕ) → length (write_of (take i l)) ≤ length (write_of l)
size-part l i =
    omega (arith, ap (λ z. length (write_of z)) (take-append-drop i l), ap length (write-append (take i l) (drop i l)), length-append (write_of (take i l)) (write_of (drop i l)))

pub size-most : (l : List ℕ) → length (write_of l) ≤ 10 * length l
unfolding write_of
size-most [] = omega arith
size-most (x ∷ l) = omega (arith, length-append (encode x) (write_of l), groups-most 10 x, size-most l)

-- The sum of the sizes.
pub sizes-sum : (l : List ℕ) → sum_by (λ n. length (encode n)) l ≡ length (write_of l)
unfolding write_of
sizes-sum [] = refl
sizes-sum (x ∷ l) = omega (arith, sum_by-cons (λ n. length (encode n)) x l, length-append (encode x) (write_of l), sizes-sum l)

pub sizes-most : (l : List ℕ) → sum_by (λ n. length (encode n)) l ≤ 10 * length l
sizes-most l = omega (arith, sizes-sum l, size-most l)
