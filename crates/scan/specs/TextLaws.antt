-- What the loops over a text need: one byte passed, a byte that stops, the end.
use Rattle.std.specs.Prelude.{◌≡◌, Bool, ◌&&◌, List, ℕ, suc, ◌+◌, ◌≤◌, ◌<◌, leb, length, get_or, drop, Some, None}
use Rattle.std.proofs.Math.Path.{refl}
use Rattle.std.proofs.Math.Bool.{true, false, cond}
use Rattle.std.proofs.Math.Numerals.{add-one}
use Rattle.std.proofs.Common.{arith, drop_of_length-le, drop-cons}
use Rattle.scan.specs.Text.{before, first_from, is_digit, most, with_digit, number_from}

-- ---- places
module _ (p : ℕ → Bool) (text : List ℕ) (at : ℕ) where
  pub first-here : at < length text → p (get_or text at 0) ≡ true → first_from p text at ≡ at
  unfolding before
  first-here h e = rw (drop-cons text at 0 h, e) (omega arith)

  pub first-further : at < length text → p (get_or text at 0) ≡ false → first_from p text at ≡ first_from p text (at + 1)
  unfolding before
  first-further h e = rw (drop-cons text at 0 h, e, add-one at) (omega arith)

  pub first-end : length text ≤ at → first_from p text at ≡ at
  unfolding before
  first-end h = rw (drop_of_length-le text h) (omega arith)

-- ---- numbers
module _ (digits : List ℕ) (n i : ℕ) where
  abbrev here : ℕ
  here = get_or digits i 0

  pub number_more : i < length digits → is_digit here ≡ true → leb (with_digit n here) most ≡ true
      → number_from n (drop i digits) ≡ number_from (with_digit n here) (drop (i + 1) digits)
  unfolding number_from
  number_more h d f = rw (drop-cons digits i 0 h, d, f, add-one i)

  pub number-no-digit : i < length digits → is_digit here ≡ false → number_from n (drop i digits) ≡ None
  unfolding number_from
  number-no-digit h d = rw (drop-cons digits i 0 h, d)

  pub number-too-large : i < length digits → leb (with_digit n here) most ≡ false → number_from n (drop i digits) ≡ None
  unfolding number_from
  number-too-large h f = rw (drop-cons digits i 0 h, f) (go (is_digit here))
    where
      go : (t : Bool) → cond (t && false) (number_from (with_digit n here) (drop (suc i) digits)) None ≡ None
      go true = refl
      go false = refl

  pub number-end : length digits ≤ i → number_from n (drop i digits) ≡ Some n
  unfolding number_from
  number-end h = rw (drop_of_length-le digits h)
