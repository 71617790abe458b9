-- How long the texts are at most, where every number has room for all its digits.
use Rattle.std.specs.Prelude.{◌≡◌, refl, Bool, true, ◌&&◌, List, [], ◌∷◌, ◌++◌, ℕ, zero, suc, ◌*◌, ◌/◌, ◌≤◌, ◌<◌, leb, ltb, eqb, ℤ, pos, negsuc, length, get_or, take}
use Rattle.std.proofs.Math.Bool.{and-eq-true_iff}
use Rattle.std.proofs.Common.{arith, leb-true, length-append, length-take}
use Rattle.lists.specs.Block.{block}
use Rattle.lists.specs.Keep.{cond-keeps}
use Rattle.decimal.proofs.PutLaws.{numeral-length}
use Rattle.fields.specs.Fields.{count, shaped}
use Rattle.fields.specs.FieldLaws.{counts-most, shape-tells}
use Rattle.folding.specs.Fold.{unfolded}
use Rattle.wording.specs.declared.values.Style.{Style}
use Rattle.wording.specs.declared.values.Style.TheVariants.{Plain, Rate, Time, Side}
use Rattle.wording.specs.Words.{words, labels, word_of, label_of}
use Rattle.wording.specs.Text.{percent, rate_text, time_text, side_text, style_of, value_text, field_text, fields_text, exception_text, record_text}

-- ---- words
all_short : ℕ → List (List ℕ) → Bool
all_short most [] = true
all_short most (t ∷ more) = leb (length t) most && all_short most more

all_short_in : ℕ → List (List (List ℕ)) → Bool
all_short_in most [] = true
all_short_in most (row ∷ more) = all_short most row && all_short_in most more

short-at : (most : ℕ) (texts : List (List ℕ)) (i : ℕ) → all_short most texts ≡ true → length (get_or texts i []) ≤ most
unfolding all_short
short-at most [] i e = omega arith
short-at most (t ∷ more) zero e = leb-true (length t) most ((and-eq-true_iff (leb (length t) most) (all_short most more)).0 e).0
short-at most (t ∷ more) (suc i) e = short-at most more i ((and-eq-true_iff (leb (length t) most) (all_short most more)).0 e).1

short-in : (most : ℕ) (rows : List (List (List ℕ))) (k i : ℕ) → all_short_in most rows ≡ true → length (get_or (get_or rows k []) i []) ≤ most
unfolding all_short_in
short-in most [] k i e = omega arith
short-in most (row ∷ more) zero i e = short-at most row i ((and-eq-true_iff (all_short most row) (all_short_in most more)).0 e).0
short-in most (row ∷ more) (suc k) i e = short-in most more k i ((and-eq-true_iff (all_short most row) (all_short_in most more)).0 e).1

pub word-length : (kind : ℕ) → length (word_of kind) ≤ 7
unfolding all_short
word-length kind = short-at 7 words kind refl

pub label-length : (kind field : ℕ) → length (label_of kind field) ≤ 12
unfolding all_short all_short_in
label-length kind field = short-in 12 labels kind field refl

-- the last row of a table
pub last_row : {n k : ℕ} → n ≤ k → k < suc n → k ≡ n
last_row h l = omega arith

-- ---- values
pub percent-length : (size : ℕ) → length (percent size) ≤ 26
percent-length size = simp length-append (omega (arith, numeral-length (size / 10000)))

pub rate-length : (z : ℤ) → length (rate_text z) ≤ 27
rate-length (pos n) = omega (arith, percent-length n)
rate-length (negsuc n) = omega (arith, percent-length (suc n))

pub time-length : (n : ℕ) → length (time_text n) ≤ 20
time-length n = cond-keeps (λ t. length t ≤ 20) (ltb n 86400) _ _ (λ e. omega arith) (λ e. numeral-length n)

pub side-length : (n : ℕ) → length (side_text n) ≤ 20
side-length n =
    cond-keeps (λ t. length t ≤ 20) (eqb n 0) _ _ (λ e. omega arith)
    (λ e. cond-keeps (λ t. length t ≤ 20) (eqb n 1) _ _ (λ f. omega arith) (λ f. numeral-length n))

pub value-length : (style : Style) (n : ℕ) → length (value_text style n) ≤ 27
value-length Plain n = omega (arith, numeral-length n)
value-length Rate n = rate-length (unfolded n)
value-length Time n = omega (arith, time-length n)
value-length Side n = omega (arith, side-length n)

-- ---- a record
pub field-length : (kind field n : ℕ) → length (field_text kind field n) ≤ 39
field-length kind field n =
    let value = value_text (style_of kind field) n in
    rw (length-append (label_of kind field) value) (omega (arith, label-length kind field, value-length (style_of kind field) n))

pub fields-length : (kind field : ℕ) (ns : List ℕ) → length (fields_text kind field ns) ≤ length ns * 39
unfolding fields_text
fields-length kind field [] = omega arith
fields-length kind field (n ∷ ns) =
    rw (length-append (field_text kind field n) (fields_text kind (suc field) ns))
    (omega (arith, field-length kind field n, fields-length kind (suc field) ns))

pub own-length : (kind : ℕ) (fields : List ℕ) → length (fields_text kind 0 (take (count kind) fields)) ≤ 507
own-length kind fields =
    let own = take (count kind) fields in
    let few : length own ≤ 13 = omega (arith, length-take (count kind) fields, counts-most kind) in
    omega (arith, fields-length kind 0 own)

pub exception-length : (n : ℕ) → length (exception_text n) ≤ 21
exception-length n = omega (arith, numeral-length n)

pub exceptions-length : (ns : List ℕ) → length (block exception_text ns) ≤ length ns * 21
unfolding block
exceptions-length [] = omega arith
exceptions-length (n ∷ ns) =
    rw (length-append (exception_text n) (block exception_text ns)) (omega (arith, exception-length n, exceptions-length ns))

pub record-length : (kind : ℕ) (fields exceptions : List ℕ) → shaped kind fields (length exceptions) ≡ true
    → length (record_text kind fields exceptions) ≤ 8914
record-length kind fields exceptions e =
    let s = shape-tells kind fields (length exceptions) e in
    let own = fields_text kind 0 (take (count kind) fields) in
    let listed = block exception_text exceptions in
    rw (length-append (word_of kind) (own ++ listed), length-append own listed)
    (omega (arith, word-length kind, own-length kind fields, exceptions-length exceptions, s.few, s.there))
