-- The words of a line: a label begins with a space, a kind's word has none, and no two kinds have the same word.
use Rattle.std.specs.Prelude.{◌≡◌, refl, Bool, true, not, ◌||◌, List, [], ◌∷◌, ◌++◌, ℕ, ◌+◌, ◌*◌, ◌<◌, eqb, leb, get_or}
use Rattle.std.proofs.Common.{ap, append_assoc, arith, eq-eqb, eqb-true, leb-true}
use Rattle.std.proofs.Math.Bool.{and-eq-true_iff}
use Rattle.lists.specs.All.{All, none_left, and-more}
use Rattle.lists.specs.Passing.{all, passing, all-passing}
use Rattle.scan.specs.Text.{before}
use Rattle.fields.specs.Fields.{kinds, count}
use Rattle.wording.specs.Words.{word_of, label_of}
use Rattle.wording.specs.Text.{style_of, value_text, field_text, exception_text}
use Rattle.parsing.specs.GuessLaws.{Seen}
use Rattle.parsing.specs.Places.{Ends}
use Rattle.parsing.specs.PlaceLaws.{Spaced}

-- a test of each number below n
abbrev each : (ℕ → Bool) → ℕ → Bool
each test n = all test (passing (λ _. true) n)

each_at : (test : ℕ → Bool) (n k : ℕ) → each test n ≡ true → k < n → test k ≡ true
each_at test n k a h = all-passing test (λ _. true) n k a h refl

-- ---- labels
abbrev space_first : ℕ → ℕ → Bool
space_first kind field = eqb (get_or (label_of kind field) 0 0) 32

labels-tested : each (λ kind. each (space_first kind) (count kind)) 13 ≡ true
unfolding all passing kinds
labels-tested = refl

label-space : (kind field : ℕ) → kind < 13 → field < count kind → get_or (label_of kind field) 0 0 ≡ 32
label-space kind field h k =
    eqb-true (get_or (label_of kind field) 0 0) 32
    (each_at (space_first kind) (count kind) field (each_at (λ k. each (space_first k) (count k)) 13 kind labels-tested h) k)

begins-space : (text rest : List ℕ) → get_or text 0 0 ≡ 32 → Ends (text ++ rest)
unfolding before
begins-space [] rest e = absurd (omega arith)
begins-space (x ∷ text) rest e = rw (eq-eqb x 32 e)

pub fields-spaced : (kind : ℕ) → kind < 13 → Spaced (field_text kind) (count kind)
fields-spaced kind h i n rest k =
    let value = value_text (style_of kind i) n in
    rw (append_assoc (label_of kind i) value rest) (begins-space (label_of kind i) (value ++ rest) (label-space kind i h k))

pub exceptions-spaced : (n : ℕ) → Spaced (λ _. exception_text) n
unfolding before
exceptions-spaced n i m rest k = refl

-- ---- kinds
words-tested : each (λ kind. all (leb 33) (word_of kind)) 13 ≡ true
unfolding all passing
words-tested = refl

seen_all : (word : List ℕ) → all (leb 33) word ≡ true → All Seen word
unfolding all
seen_all [] e = none_left
seen_all (x ∷ word) e =
    let both = (and-eq-true_iff (leb 33 x) (all (leb 33) word)).0 e in
    and-more (leb-true 33 x both.0) (seen_all word both.1)

pub word-seen : (kind : ℕ) → kind < 13 → All Seen (word_of kind)
word-seen kind h = seen_all (word_of kind) (each_at (λ k. all (leb 33) (word_of k)) 13 kind words-tested h)

-- the first and the fifth byte tell the kinds apart
abbrev key : List ℕ → ℕ
key word = get_or word 0 0 * 256 + get_or word 4 0

abbrev apart : ℕ → ℕ → Bool
apart j k = not (eqb (key (word_of j)) (key (word_of k))) || eqb j k

kinds-tested : each (λ j. each (apart j) 13) 13 ≡ true
unfolding all passing
kinds-tested = refl

pub kind-only : (j k : ℕ) → j < 13 → k < 13 → word_of j ≡ word_of k → j ≡ k
kind-only j k g h e =
    let tested = each_at (apart j) 13 k (each_at (λ j. each (apart j) 13) 13 j kinds-tested g) h in
    eqb-true j k (rw (eq-eqb (key (word_of j)) (key (word_of k)) (ap key e)) at tested)
