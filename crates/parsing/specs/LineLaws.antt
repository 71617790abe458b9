-- How the parts of a line make its record: the word of the kind, the fields, the exceptions, and nothing after them.
use Rattle.std.specs.Prelude.{◌≡◌, refl, ℕ, zero, suc, ◌+◌, ◌≤◌, ◌<◌, get_or, set, replicate, Result, Ok, Err}
use Rattle.std.specs.Result.{MatchResult}
use Rattle.std.proofs.Math.Path.{sym, ap}
use Rattle.std.proofs.Common.{◌∙◌, zero-add, add-one, eqb-true, eq-eqb, le-leb, length-take, take-append-drop, drop_of_length-le, drop-cons, drop-set-lt, take_all, length-take-le}
use Rattle.std.proofs.Math.Bool.{true, and-eq-true_iff}
use mathlib.Core.List.{List, [], ◌∷◌, ◌++◌, append-nil}
use native.Mathlib.Omega.{arith}
use Rattle.std.proofs.Math.ListN.{length, take, drop, length-drop}
use Rattle.std.proofs.Math.Seq.{take-append_seam}
use Rattle.lists.specs.All.{none_left, and-more}
use Rattle.lists.specs.Block.{block}
use Rattle.lists.specs.Passing.{all}
use Rattle.scan.specs.Text.{before, byte_end}
use Rattle.fields.specs.Fields.{count, announced, is_zero}
use Rattle.fields.specs.FieldLaws.{is_known, counts-most, shape-tells}
use Rattle.wording.specs.Words.{word_of}
use Rattle.wording.specs.Text.{field_text, fields_text, exception_text, record_text}
use Rattle.parsing.specs.declared.line.LineError.{LineError}
use Rattle.parsing.specs.declared.line.LineError.TheVariants.{NoKind, NoField, NoException, TooLong}
use Rattle.parsing.specs.Parsing.{Small, Sayable, NoRecord, OfRecord, Names, Begun, first_word}
use Rattle.parsing.specs.Places.{Ends, run, Passed, Lacks, Tailed, NoTail, Behind, Tail}
use Rattle.parsing.specs.PlaceLaws.{goes_on, word_end, run_ends}
use Rattle.parsing.specs.WordLaws.{fields-spaced, exceptions-spaced, word-seen, kind-only}

-- ---- the texts of a record as values one after the other
run-fields : (kind i : ℕ) (ns : List ℕ) → fields_text kind i ns ≡ run (field_text kind) i ns
unfolding run fields_text
run-fields kind i [] = refl
run-fields kind i (n ∷ ns) = ap (λ l. field_text kind i n ++ l) (run-fields kind (suc i) ns)

run-exceptions : (i : ℕ) (ns : List ℕ) → block exception_text ns ≡ run (λ _. exception_text) i ns
unfolding run block
run-exceptions i [] = refl
run-exceptions i (n ∷ ns) = ap (λ l. exception_text n ++ l) (run-exceptions (suc i) ns)

nothing_ends : Ends []
unfolding before
nothing_ends = refl

block-ends : (ns : List ℕ) → Ends (block exception_text ns)
block-ends ns =
    rw (run-exceptions 0 ns, ← (append-nil (run (λ _. exception_text) 0 ns)))
    (run_ends (λ _. exception_text) (length ns) 0 ns [] (exceptions-spaced (length ns)) (omega arith) nothing_ends)

-- ---- zeros after the fields
zeros-same : (xs ys : List ℕ) → length xs ≡ length ys → all is_zero xs ≡ true → all is_zero ys ≡ true → xs ≡ ys
unfolding all
zeros-same [] [] h e f = refl
zeros-same [] (y ∷ ys) h e f = absurd (omega arith)
zeros-same (x ∷ xs) [] h e f = absurd (omega arith)
zeros-same (x ∷ xs) (y ∷ ys) h e f =
    let a = (and-eq-true_iff (is_zero x) (all is_zero xs)).0 e in
    let b = (and-eq-true_iff (is_zero y) (all is_zero ys)).0 f in
    rw (eqb-true x 0 a.0, eqb-true y 0 b.0, zeros-same xs ys (omega arith) a.1 b.1)

fields-same : (n : ℕ) (xs ys : List ℕ) → length xs ≡ length ys → take n xs ≡ take n ys
    → all is_zero (drop n xs) ≡ true → all is_zero (drop n ys) ≡ true → xs ≡ ys
fields-same n xs ys h first e f =
    let last = zeros-same (drop n xs) (drop n ys) (omega (arith, length-drop n xs, length-drop n ys)) e f in
    sym (take-append-drop n xs) ∙ ap (λ l. l ++ drop n xs) first ∙ ap (λ l. take n ys ++ l) last ∙ take-append-drop n ys

pub zeros-blank : (n m : ℕ) → all is_zero (drop n (replicate m 0)) ≡ true
unfolding all
zeros-blank zero zero = refl
zeros-blank zero (suc m) = zeros-blank zero m
zeros-blank (suc n) zero = refl
zeros-blank (suc n) (suc m) = zeros-blank n m

-- a field that is set leaves zeros after it
pub zeros-after : (fields : List ℕ) (i n : ℕ) → i < length fields → all is_zero (drop i fields) ≡ true → all is_zero (drop (i + 1) (set fields i n)) ≡ true
unfolding all
zeros-after fields i n h e =
    let rest = (and-eq-true_iff (is_zero (get_or fields i 0)) (all is_zero (drop (suc i) fields))).0 (rw (drop-cons fields i 0 h) at e) in
    rw (add-one i, drop-set-lt (suc i) fields i n (omega arith)) rest.1

small-take : (n : ℕ) {ns : List ℕ} → Small ns → Small (take n ns)
small-take zero a = none_left
small-take (suc n) none_left = none_left
small-take (suc n) (and-more h a) = and-more h (small-take n a)

-- ---- behind the fields
module _ (line : List ℕ) (at n : ℕ) where
  exceptions-at : (es : List ℕ) → drop at line ≡ block exception_text es → drop at line ≡ run (λ _. exception_text) 0 es ++ []
  exceptions-at es e = e ∙ run-exceptions 0 es ∙ sym (append-nil (run (λ _. exception_text) 0 es))

  pub tail-too-many : 400 < n → NoTail line at n
  tail-too-many h es long few small e = omega arith

  pub tail-lacks : Lacks (λ _. exception_text) n line at → NoTail line at n
  tail-lacks lacks es long few small e = lacks es [] long small nothing_ends (exceptions-at es e)

  module _ (last : ℕ) (ns : List ℕ) (p : Passed (λ _. exception_text) n line at last ns) where
    pub tail-longer : length ns ≡ n → last < length line → NoTail line at n
    unfolding run
    tail-longer all more es long few small e =
        let so = (p.only es [] long small nothing_ends (exceptions-at es e)).1 in
        let none : length es ≤ length ns = omega arith in
        let over : drop last line ≡ [] = so ∙ rw (drop_of_length-le es none) in
        omega (arith, length-drop last line, ap length over)

    pub tail-ends : length line ≤ last → drop at line ≡ block exception_text ns
    tail-ends h =
        p.stands.is ∙ rw (drop_of_length-le line h) (append-nil (run (λ _. exception_text) 0 ns) ∙ sym (run-exceptions 0 ns))

    pub tail-only : length ns ≡ n → (es : List ℕ) → length es ≡ n → Small es → drop at line ≡ block exception_text es → es ≡ ns
    tail-only all es long small e =
        sym (take_all (length ns) es (omega arith)) ∙ (p.only es [] long small nothing_ends (exceptions-at es e)).0

-- what is refused behind the fields names their kind
pub behind-names : (line : List ℕ) (kind many : ℕ) (error : LineError) → kind < 13 → first_word line ≡ word_of kind
    → Behind kind many error → Names error × Begun line error
behind-names line kind many NoKind below word b = absurd b
behind-names line kind many (NoField k field) below word b = absurd b
behind-names line kind many (NoException k n read) below word b = rw (b.0, b.1) ((below, b.2), word)
behind-names line kind many (TooLong k) below word b = rw b (below, word)

-- ---- the whole line
module _ (line : List ℕ) (end : ℕ) (last : end ≡ byte_end 32 line 0) where
  record Opened (k : ℕ) (fs es : List ℕ) : Type 0 where
    below : k < 13
    word : take end line ≡ word_of k
    rest : drop end line ≡ run (field_text k) 0 (take (count k) fs) ++ block exception_text es

  opened : (k : ℕ) (fs es : List ℕ) → Sayable k fs es → line ≡ record_text k fs es → Opened k fs es
  opened k fs es say e =
      let s = shape-tells k fs (length es) say.shape in
      let own = take (count k) fs in
      let behind = run (field_text k) 0 own ++ block exception_text es in
      let is : drop 0 line ≡ word_of k ++ behind = e ∙ ap (λ l. word_of k ++ (l ++ block exception_text es)) (run-fields k 0 own) in
      let ends : Ends behind =
      run_ends (field_text k) (count k) 0 own (block exception_text es) (fields-spaced k s.below)
      (omega (arith, length-take (count k) fs)) (block-ends es) in
      let stop : end ≡ length (word_of k) = last ∙ word_end line (word_of k) behind 0 (word-seen k s.below) ends is ∙ zero-add (length (word_of k)) in
      record {
        below = s.below;
        word = ap (take end) is ∙ ap (λ m. take m (word_of k ++ behind)) stop ∙ take-append_seam (word_of k) behind;
        rest = ap (λ m. drop m line) (stop ∙ sym (zero-add (length (word_of k)))) ∙ goes_on line (word_of k) behind 0 is;
      }

  pub no_kind : ((k : ℕ) → k < 13 → take end line ≡ word_of k → ⊥) → NoRecord line
  no_kind other k fs es say e = let o = opened k fs es say e in other k o.below o.word

  module _ (kind n : ℕ) (below : kind < 13) (word : take end line ≡ word_of kind) (all_of : n ≡ count kind) where
    -- a record of this line is one of this kind, and its fields stand behind the word
    fields-here : (k : ℕ) (fs es : List ℕ) → Sayable k fs es → line ≡ record_text k fs es
        → (k ≡ kind) × (drop end line ≡ run (field_text kind) 0 (take n fs) ++ block exception_text es)
    fields-here k fs es say e =
        let o = opened k fs es say e in
        let same : k ≡ kind = kind-only k kind o.below below (sym o.word ∙ word) in
        (same, rw (all_of, ← same) o.rest)

    long-enough : (fs : List ℕ) → length fs ≡ 13 → length (take n fs) ≡ n
    long-enough fs h = length-take-le n fs (omega (arith, counts-most kind))

    pub no_field : Lacks (field_text kind) n line end → NoRecord line
    no_field lacks k fs es say e =
        lacks (take n fs) (block exception_text es) (long-enough fs say.width) (small-take n say.small) (block-ends es)
        (fields-here k fs es say e).1

    module _ (more : ℕ) (fields : List ℕ) (p : Passed (field_text kind) n line end more (take n fields)) (width : length fields ≡ 13)
        (zeros : all is_zero (drop n fields) ≡ true) where
      -- a record of this line has these fields, and its exceptions stand behind them
      exceptions-here : (k : ℕ) (fs es : List ℕ) → Sayable k fs es → line ≡ record_text k fs es
          → (k ≡ kind) × (fs ≡ fields) × (drop more line ≡ block exception_text es)
      unfolding run
      exceptions-here k fs es say e =
          let here = fields-here k fs es say e in
          let so = p.only (take n fs) (block exception_text es) (long-enough fs say.width) (small-take n say.small) (block-ends es) here.1 in
          let s = shape-tells k fs (length es) say.shape in
          let long = long-enough fields width in
          let first : take n fs ≡ take n fields = sym (take_all (length (take n fields)) (take n fs) (omega (arith, long-enough fs say.width))) ∙ so.0 in
          let none : length (take n fs) ≤ length (take n fields) = omega (arith, long-enough fs say.width) in
          let after : all is_zero (drop n fs) ≡ true = rw (all_of, ← here.0) s.zeros in
          (here.0, fields-same n fs fields (say.width ∙ sym width) first after zeros, so.1 ∙ rw (drop_of_length-le (take n fs) none))

      pub no-tail : NoTail line more (announced kind fields) → NoRecord line
      no-tail none k fs es say e =
          let x = exceptions-here k fs es say e in
          let s = shape-tells k fs (length es) say.shape in
          let same : announced k fs ≡ announced kind fields = rw (x.0, x.1) in
          none es (s.there ∙ same) (omega (arith, s.few)) say.few x.2

      pub record-there : (list : List ℕ) → Tailed line more (announced kind fields) list → OfRecord line kind fields list
      record-there list t =
          let many = announced kind fields in
          let rest = block exception_text (take many list) in
          record {
            shape = rw (is_known kind below, ← all_of, zeros, le-leb many 400 t.few) (eq-eqb many many refl);
            text =
                sym (take-append-drop end line)
                ∙ ap (λ l. l ++ drop end line) word
                ∙ ap (λ l. word_of kind ++ l)
                (p.stands.is
                ∙ ap (λ l. run (field_text kind) 0 (take n fields) ++ l) t.text
                ∙ rw all_of (ap (λ l. l ++ rest) (sym (run-fields kind 0 (take (count kind) fields)))));
            only =
                λ k fs es say e.
                let x = exceptions-here k fs es say e in
                let same : announced k fs ≡ many = rw (x.0, x.1) in
                (x.0, x.1, t.only es ((shape-tells k fs (length es) say.shape).there ∙ same) say.few x.2);
          }

      -- what stands behind the fields makes the line this record's, or no record's with what was being read named
      pub tail-says : (list : List ℕ) (answer : Result Unit LineError) → Tail line more kind (announced kind fields) list answer
          → MatchResult answer (λ done. OfRecord line kind fields list) (λ error. Names error × Begun line error × NoRecord line)
      tail-says list (Ok done) t = record-there list t
      tail-says list (Err error) t =
          let names = behind-names line kind (announced kind fields) error below (rw last at word) t.0 in
          (names.0, names.1, no-tail t.1)
