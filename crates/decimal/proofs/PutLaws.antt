-- Texts put one after the other are their text put at once; and how long the text of a number is.
use Rattle.std.specs.Prelude.{◌≡◌, refl, List, [], ◌∷◌, ◌++◌, ℕ, zero, suc, ◌+◌, ◌/◌, ◌%◌, ◌≤◌, ℤ, pos, negsuc, length}
use Rattle.std.proofs.Common.{sym, ap, ◌∙◌, arith, length-append, take-append-drop}
use Rattle.lists.specs.Parts.{with_part-join, with_part-length}
use Rattle.decimal.specs.Decimal.{digit, digits_in, numeral, signed_numeral}
use Rattle.decimal.proofs.DecimalLaws.{by_ten, digits-one, digits_more}
use Rattle.decimal.specs.Put.{Put}

pub put-none : (room : List ℕ) (at : ℕ) → Put room at [] at room
put-none room at = record { place = omega arith; holds = sym (take-append-drop at room) }

pub put-more : {room room' room'' a b : List ℕ} {at p q : ℕ} → at + (length a + length b) ≤ length room
    → Put room at a p room' → Put room' p b q room'' → Put room at (a ++ b) q room''
put-more {room} {a = a} {b} {at} h first next =
    let joined = with_part-join at (length a) (length b) room a b refl h in
    record {
      place = rw (length-append a b) (omega arith);
      holds = next.holds ∙ rw (first.place, first.holds, length-append a b) joined;
    }

pub put-length : {room room' text : List ℕ} {at after : ℕ} → at + length text ≤ length room
    → Put room at text after room' → length room' ≡ length room
put-length {room} {text = text} {at} h put = ap length put.holds ∙ with_part-length 0 at (length text) room text refl h

-- ---- the text of a number
digits-length : (places n : ℕ) → length (digits_in places n) ≤ places
unfolding digits_in
digits-length zero n = omega arith
digits-length (suc places) n = by_ten n
    (λ small. rw (digits-one places n small) (omega arith))
    (λ tens.
    let first = digits_in places (n / 10) in
    rw (digits_more places n tens, length-append first (digit (n % 10) ∷ [])) (omega (arith, digits-length places (n / 10))))

pub numeral-length : (n : ℕ) → length (numeral n) ≤ 20
numeral-length n = digits-length 20 n

pub signed-length : (z : ℤ) → length (signed_numeral z) ≤ 21
signed-length (pos n) = omega (arith, numeral-length n)
signed-length (negsuc n) = omega (arith, numeral-length (suc n))
