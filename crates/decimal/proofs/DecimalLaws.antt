-- The text of a number: it is what its digits, counted out, spell, a reader takes it for the number again, and no zero stands in front.
use Rattle.std.specs.Prelude.{◌≡◌, refl, ◌&&◌, List, [], ◌∷◌, ◌++◌, ℕ, zero, suc, ◌+◌, ◌*◌, ◌/◌, ◌%◌, ◌^◌, ◌≤◌, ◌<◌, leb, ltb, ℤ, pos, negsuc, neg_ℤ, get_or, Some, None}
use Rattle.std.proofs.Common.{sym, ap, ◌∙◌, mod-eq_of_lt, pow-suc, arith, ltb-true, ltb-false, lt-ltb, le-ltb, le-leb, ne_eqb, SFits}
use Rattle.std.proofs.Math.Nat.{one-le-pow}
use Rattle.std.proofs.Math.Numerals.{unary_clauses}
use Rattle.std.specs.Int.{w64}
use Rattle.lists.specs.HasLaws.{by_test, when_true, when_false}
use Rattle.scan.specs.Text.{is_digit, most, with_digit, number_from, number_in}
use Rattle.decimal.specs.Digits.{last_digits, IsDigitCount}
use Rattle.decimal.specs.Decimal.{digit, digits_in, numeral, minus, signed_numeral, signed, taken_as, signed_in}

-- ---- one digit, or one more behind those of the tenth
pub by_ten : {G : Type 0} (n : ℕ) → (n < 10 → G) → (10 ≤ n → G) → G
by_ten n f g = by_test (ltb n 10) (λ e. f (ltb-true n 10 e)) (λ e. g (ltb-false n 10 e))

module _ (places n : ℕ) where
  pub digits-one : n < 10 → digits_in (suc places) n ≡ digit n ∷ []
  unfolding digits_in
  digits-one h = when_true _ _ (lt-ltb n 10 h)

  pub digits_more : 10 ≤ n → digits_in (suc places) n ≡ digits_in places (n / 10) ++ (digit (n % 10) ∷ [])
  unfolding digits_in
  digits_more h = when_false _ _ (le-ltb n 10 h)

-- ---- the digits counted out
spelled-in : (k places n : ℕ) → n < 10 ^ suc places → IsDigitCount n k → last_digits k n ≡ digits_in (suc places) n
spelled-in zero places n h f = absurd (omega (arith, f.0))
spelled-in (suc zero) places n h f =
    let small : n < 10 = omega (arith, f.1) in
    rw (digits-one places n small, mod-eq_of_lt small) refl
spelled-in (suc (suc k)) zero n h f = absurd (omega (arith, simp unary_clauses at (f.2 (omega arith)), one-le-pow k 10 (omega arith)))
spelled-in (suc (suc k)) (suc places) n h f =
    let above : 10 ^ k * 10 ≤ n = simp unary_clauses at (f.2 (omega arith)) in
    let below : n < 10 ^ k * 10 * 10 = simp unary_clauses at f.1 in
    let tens : 10 ≤ n = omega (arith, one-le-pow k 10 (omega arith)) in
    let tenth : IsDigitCount (n / 10) (suc k) = (omega arith, simp unary_clauses (omega arith), λ _. simp unary_clauses (omega arith)) in
    rw (digits_more (suc places) n tens)
    (ap (λ l. l ++ (digit (n % 10) ∷ [])) (spelled-in (suc k) places (n / 10) (omega (arith, pow-suc 10 (suc places))) tenth))

pub spelled : (k n : ℕ) → n ≤ most → IsDigitCount n k → last_digits k n ≡ numeral n
spelled k n h = spelled-in k 19 n (omega arith)

-- ---- the number is read back
number_behind : (xs ys : List ℕ) (a n : ℕ) → number_from a xs ≡ Some n → number_from a (xs ++ ys) ≡ number_from n ys
unfolding number_from
number_behind [] ys a n e = let same : a ≡ n = cc in ap (λ m. number_from m ys) same
number_behind (x ∷ xs) ys a n e = by_test (is_digit x && leb (with_digit a x) most)
    (λ t. when_true _ _ t ∙ number_behind xs ys (with_digit a x) n (sym (when_true _ _ t) ∙ e))
    (λ t. let never : None ≡ Some n = sym (when_false _ _ t) ∙ e in let z : ◌≡◌ {A = ℕ} 0 1 = cc in absurd (omega arith))

number-digit : (a d : ℕ) → d < 10 → 10 * a + d ≤ most → number_from a (digit d ∷ []) ≡ Some (10 * a + d)
unfolding number_from
number-digit a d h k =
    rw (le-leb 48 (48 + d) (omega arith), le-leb (48 + d) 57 (omega arith), le-leb (with_digit a (digit d)) most (omega arith))
    (ap Some (omega arith))

digits-read : (places n : ℕ) → n < 10 ^ places → n ≤ most → number_in (digits_in places n) ≡ Some n
unfolding number_from digits_in
digits-read zero n h k = ap Some (omega arith)
digits-read (suc places) n h k = by_ten n
    (λ small. rw (digits-one places n small) (number-digit 0 n small (omega arith) ∙ ap Some (omega arith)))
    (λ tens.
    let first = digits_in places (n / 10) in
    let read : number_in first ≡ Some (n / 10) = digits-read places (n / 10) (omega (arith, pow-suc 10 places)) (omega arith) in
    rw (digits_more places n tens) (number_behind first (digit (n % 10) ∷ []) 0 (n / 10) read)
    ∙ number-digit (n / 10) (n % 10) (omega arith) (omega arith)
    ∙ ap Some (omega arith))

pub numeral_reads : (n : ℕ) → n ≤ most → number_in (numeral n) ≡ Some n
numeral_reads n h = digits-read 20 n (omega arith) h

-- ---- the first digit: it is 0 for no other number than 0
record Leads (n : ℕ) (text : List ℕ) : Type 0 where
  first : ℕ
  rest : List ℕ
  is : text ≡ digit first ∷ rest
  only : first ≡ 0 → n ≡ 0

lone : (n : ℕ) → Leads n (digit n ∷ [])
lone n = record { first = n; rest = []; is = refl; only = λ e. e }

further : {n : ℕ} {text : List ℕ} (d : ℕ) → 10 ≤ n → Leads (n / 10) text → Leads n (text ++ (d ∷ []))
further {n} d tens l =
    record {
      first = l.first;
      rest = l.rest ++ (d ∷ []);
      is = rw l.is;
      only = λ e. omega (arith, l.only e);
    }

leads : (places n : ℕ) → n < 10 ^ suc places → Leads n (digits_in (suc places) n)
leads zero n h = let small : n < 10 = omega arith in rw (digits-one 0 n small) (lone n)
leads (suc places) n h = by_ten n
    (λ small. rw (digits-one (suc places) n small) (lone n))
    (λ tens.
    rw (digits_more (suc places) n tens)
    (further (digit (n % 10)) tens (leads places (n / 10) (omega (arith, pow-suc 10 (suc places))))))

numeral-leads : (n : ℕ) → n ≤ most → Leads n (numeral n)
numeral-leads n h = leads 19 n (omega arith)

pub numeral-shortest : (n : ℕ) → n ≤ most → get_or (numeral n) 0 0 ≡ 48 → n ≡ 0
numeral-shortest n h e =
    let l = numeral-leads n h in
    l.only (omega (arith, ap (λ t. get_or t 0 0) l.is))

-- ---- the signed number is read back
-- a digit is no minus sign
no_minus : (n : ℕ) → n ≤ most → signed_in (numeral n) ≡ taken_as pos (number_in (numeral n))
no_minus n h =
    let l = numeral-leads n h in
    let first : get_or (numeral n) 0 0 ≡ digit l.first = ap (λ t. get_or t 0 0) l.is in
    when_false _ _ (ne_eqb (get_or (numeral n) 0 0) minus (λ e. omega arith))

pub signed_reads : (z : ℤ) → SFits w64 z → signed_in (signed_numeral z) ≡ signed z
signed_reads (pos n) f =
    let h : n ≤ most = omega (arith, f.sfits) in
    no_minus n h ∙ ap (taken_as pos) (numeral_reads n h)
signed_reads (negsuc n) f = ap (taken_as (λ m. neg_ℤ (pos m))) (numeral_reads (suc n) (omega (arith, f.sfits)))
