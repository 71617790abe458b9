-- The guess is right for every value's text; and such a text has no space in it.
use Rattle.std.specs.Prelude.{◌≡◌, refl, Bool, true, false, cond, List, [], ◌∷◌, ◌++◌, ℕ, zero, suc, ◌+◌, ◌*◌, ◌-◌, ◌/◌, ◌%◌, ◌≤◌, ◌<◌, eqb, ltb, ℤ, pos, negsuc, length, get_or}
use Rattle.std.proofs.Common.{sym, ap, ◌∙◌, arith, lt-ltb, le-ltb, le-leb, ne_eqb}
use Rattle.std.proofs.Math.Decide.{dec_lt, ℕ_discrete}
use Rattle.std.proofs.Math.Seq.{take-append_seam, drop-append_seam}
use Rattle.lists.specs.All.{All, none_left, and-more, all-weaken, all-last}
use Rattle.lists.specs.HasLaws.{when_true, when_false}
use Rattle.scan.specs.Text.{before, byte_end, most}
use Rattle.decimal.specs.Decimal.{digit, digits_in, numeral, minus}
use Rattle.decimal.proofs.DecimalLaws.{by_ten, digits-one, digits_more, numeral_reads}
use Rattle.folding.specs.Fold.{unfolded}
use Rattle.folding.specs.FoldLaws.{unfolded-even, unfolded-odd}
use Rattle.wording.specs.Text.{two_digits, four_digits, percent, rate_text, clock_text, time_text, bid, offer, side_text, value_text}
use Rattle.wording.specs.declared.values.Style.{Style}
use Rattle.wording.specs.declared.values.Style.TheVariants.{Plain, Rate, Time, Side}
use Rattle.parsing.specs.Guess.{two_at, number_of, or_zero, time_in, sized, size_in, doubled, lowered, rate_in, side_in, guessed}

-- ---- bytes of a text
abbrev pub Digit : ℕ → Type 0
Digit b = (48 ≤ b) × (b ≤ 57)

-- no control sign and no space
abbrev pub Seen : ℕ → Type 0
Seen b = 33 ≤ b

all_join : {P : ℕ → Type 0} {xs ys : List ℕ} → All P xs → All P ys → All P (xs ++ ys)
all_join none_left b = b
all_join (and-more p a) b = and-more p (all_join a b)

digits-only : (places n : ℕ) → All Digit (digits_in places n)
unfolding digits_in
digits-only zero n = none_left
digits-only (suc places) n = by_ten n
    (λ small. rw (digits-one places n small) (and-more {x = digit n} (omega arith, omega arith) none_left))
    (λ tens.
    rw (digits_more places n tens) (all-last (digits_in places (n / 10)) (digits-only places (n / 10)) (omega arith, omega arith)))

numeral-digits : (n : ℕ) → All Digit (numeral n)
numeral-digits n = digits-only 20 n

numeral-seen : (n : ℕ) → All Seen (numeral n)
numeral-seen n = all-weaken (λ b d. omega (arith, d.0)) (numeral-digits n)

two-seen : (n : ℕ) → All Seen (two_digits n)
two-seen n = and-more {x = digit (n / 10)} (omega arith) (and-more {x = digit (n % 10)} (omega arith) none_left)

percent-seen : (n : ℕ) → All Seen (percent n)
percent-seen n =
    let behind = all_join (two-seen (n % 10000 / 100)) (two-seen (n % 10000 % 100)) in
    all_join (numeral-seen (n / 10000)) (and-more {x = 46} (omega arith) (all_join behind (and-more {x = 37} (omega arith) none_left)))

rate-seen : (z : ℤ) → All Seen (rate_text z)
rate-seen (pos n) = percent-seen n
rate-seen (negsuc n) = and-more {x = minus} (omega arith) (percent-seen (suc n))

either-seen : (t : Bool) {xs ys : List ℕ} → All Seen xs → All Seen ys → All Seen (cond t xs ys)
either-seen true a b = a
either-seen false a b = b

clock-seen : (n : ℕ) → All Seen (clock_text n)
clock-seen n =
    all_join (two-seen (n / 3600))
    (and-more {x = 58} (omega arith) (all_join (two-seen (n / 60 % 60)) (and-more {x = 58} (omega arith) (two-seen (n % 60)))))

bid-seen : All Seen bid
bid-seen = and-more {x = 98} (omega arith) (and-more {x = 105} (omega arith) (and-more {x = 100} (omega arith) none_left))

offer-seen : All Seen offer
offer-seen =
    let last : All Seen (101 ∷ 114 ∷ []) = and-more {x = 101} (omega arith) (and-more {x = 114} (omega arith) none_left) in
    and-more {x = 111} (omega arith) (and-more {x = 102} (omega arith) (and-more {x = 102} (omega arith) last))

pub value-seen : (style : Style) (n : ℕ) → All Seen (value_text style n)
value-seen Plain n = numeral-seen n
value-seen Rate n = rate-seen (unfolded n)
value-seen Time n = either-seen (ltb n 86400) (clock-seen n) (numeral-seen n)
value-seen Side n = either-seen (eqb n 0) bid-seen (either-seen (eqb n 1) offer-seen (numeral-seen n))

-- ---- where a text ends: at the first byte that is not its own
pub before-passed : (p : ℕ → Bool) {xs : List ℕ} (ys : List ℕ) → All (λ b. p b ≡ false) xs → before p (xs ++ ys) ≡ length xs + before p ys
unfolding before
before-passed p ys none_left = omega arith
before-passed p ys (and-more {x} {xs} e a) = rw (e, before-passed p ys a) (omega arith)

-- ---- a number
number-right : (n : ℕ) → n ≤ most → number_of (numeral n) ≡ n
number-right n h = ap or_zero (numeral_reads n h)

-- a byte of digits is none that is not a digit
no_digit : (b : ℕ) {xs : List ℕ} (i : ℕ) → All Digit xs → (48 ≤ b → b ≤ 57 → ⊥) → (b ≡ 0 → ⊥) → eqb (get_or xs i 0) b ≡ false
no_digit b i none_left f z = ne_eqb 0 b (λ e. z (sym e))
no_digit b zero (and-more {x} d a) f z = ne_eqb x b (λ e. f (omega (arith, d.0)) (omega (arith, d.1)))
no_digit b (suc i) (and-more d a) f z = no_digit b i a f z

-- ---- a time
two-right : (n : ℕ) → two_at (two_digits n) 0 ≡ n
two-right n = omega arith

hours-right : (n : ℕ) → n / 3600 * 3600 + n / 60 % 60 * 60 + n % 60 ≡ n
hours-right n = omega arith

clock-right : (n : ℕ) → time_in (clock_text n) ≡ n
clock-right n = go (two-right (n / 3600)) (two-right (n / 60 % 60)) (two-right (n % 60))
  where
    go : {a b c : ℕ} → a ≡ n / 3600 → b ≡ n / 60 % 60 → c ≡ n % 60 → a * 3600 + b * 60 + c ≡ n
    go e f g = rw (e, f, g) (hours-right n)

time-right : (n : ℕ) → n ≤ most → time_in (time_text n) ≡ n
time-right n h = go (dec_lt n 86400)
  where
    go : Dec (n < 86400) → time_in (time_text n) ≡ n
    go (yes u) = ap time_in (when_true (clock_text n) (numeral n) (lt-ltb n 86400 u)) ∙ clock-right n
    go (no u) =
        ap time_in (when_false (clock_text n) (numeral n) (le-ltb n 86400 (omega arith)))
        ∙ when_false _ _ (no_digit 58 2 (numeral-digits n) (λ x y. omega arith) (λ x. omega arith))
        ∙ number-right n h

-- ---- a side
side_right : (n : ℕ) → n ≤ most → side_in (side_text n) ≡ n
side_right n h = go (ℕ_discrete n 0) (ℕ_discrete n 1)
  where
    go : Dec (n ≡ 0) → Dec (n ≡ 1) → side_in (side_text n) ≡ n
    go (yes e) f = rw e
    go (no e) (yes f) = rw f
    go (no e) (no f) =
        ap side_in (when_false bid _ (ne_eqb n 0 e) ∙ when_false offer (numeral n) (ne_eqb n 1 f))
        ∙ when_false _ _ (no_digit 98 0 (numeral-digits n) (λ x y. omega arith) (λ x. omega arith))
        ∙ when_false _ _ (no_digit 111 0 (numeral-digits n) (λ x y. omega arith) (λ x. omega arith))
        ∙ number-right n h

-- ---- a rate
point-passed : (n : ℕ) (ys : List ℕ) → byte_end 46 (numeral n ++ (46 ∷ ys)) 0 ≡ length (numeral n)
unfolding before
point-passed n ys =
    rw (before-passed (λ b. eqb b 46) (46 ∷ ys) (all-weaken (λ b d. ne_eqb b 46 (λ e. omega (arith, d.0))) (numeral-digits n))) (omega arith)

places-right : (n whole : ℕ) → whole ≡ n / 10000 → n ≤ 9223372036854775808
    → sized whole (46 ∷ (four_digits (n % 10000) ++ (37 ∷ []))) ≡ n
places-right n whole e h = when_true _ _ (le-leb whole 922337203685477 (omega arith)) ∙ go (two-right (n % 10000 / 100)) (two-right (n % 10000 % 100))
  where
    go : {a b : ℕ} → a ≡ n % 10000 / 100 → b ≡ n % 10000 % 100 → whole * 10000 + a * 100 + b ≡ n
    go f g = rw (e, f, g) (omega arith)

size-right : (n : ℕ) → n ≤ 9223372036854775808 → size_in (percent n) ≡ n
size-right n h =
    let whole = numeral (n / 10000) in
    let places : List ℕ = 46 ∷ (four_digits (n % 10000) ++ (37 ∷ [])) in
    rw (point-passed (n / 10000) (four_digits (n % 10000) ++ (37 ∷ [])), take-append_seam whole places, drop-append_seam whole places)
    (places-right n (number_of whole) (number-right (n / 10000) (omega arith)) h)

no_minus : {xs : List ℕ} (ys : List ℕ) → All Digit xs → eqb (get_or (xs ++ (46 ∷ ys)) 0 0) 45 ≡ false
no_minus ys none_left = refl
no_minus ys (and-more {x} d a) = ne_eqb x 45 (λ e. omega (arith, d.0))

doubled-right : (n : ℕ) → n ≤ 9223372036854775807 → doubled n ≡ n * 2
doubled-right n h = when_true _ _ (le-leb n 9223372036854775807 h)

lowered-right : (n : ℕ) → n ≤ 9223372036854775807 → lowered (suc n) ≡ n * 2 + 1
lowered-right n h =
    let same : suc n - 1 ≡ n = omega arith in
    when_false _ _ (ne_eqb (suc n) 0 (λ e. omega arith)) ∙ ap (λ k. doubled k + 1) same ∙ ap (λ k. k + 1) (doubled-right n h)

rate-right : (n : ℕ) → n ≤ most → rate_in (rate_text (unfolded n)) ≡ n
rate-right n h = go (ℕ_discrete (n % 2) 0)
  where
    even : n % 2 ≡ 0 → n / 2 * 2 ≡ n
    even e = omega arith

    odd : (n % 2 ≡ 0 → ⊥) → n / 2 * 2 + 1 ≡ n
    odd e = omega arith

    go : Dec (n % 2 ≡ 0) → rate_in (rate_text (unfolded n)) ≡ n
    go (yes e) =
        ap (λ z. rate_in (rate_text z)) (unfolded-even n e)
        ∙ when_false _ _ (no_minus (four_digits (n / 2 % 10000) ++ (37 ∷ [])) (numeral-digits (n / 2 / 10000)))
        ∙ ap doubled (size-right (n / 2) (omega arith))
        ∙ doubled-right (n / 2) (omega arith)
        ∙ even e
    go (no e) =
        ap (λ z. rate_in (rate_text z)) (unfolded-odd n e)
        ∙ ap lowered (size-right (suc (n / 2)) (omega arith))
        ∙ lowered-right (n / 2) (omega arith)
        ∙ odd e

pub guess-right : (style : Style) (n : ℕ) → n ≤ most → guessed style (value_text style n) ≡ n
guess-right Plain n h = number-right n h
guess-right Rate n h = rate-right n h
guess-right Time n h = time-right n h
guess-right Side n h = side_right n h

-- a text that begins with a minus sign has a rest
pub some-behind : (word : List ℕ) → get_or word 0 0 ≡ 45 → 1 ≤ length word
some-behind [] e = absurd (omega arith)
some-behind (x ∷ word) e = omega arith
