-- A value at a place of a line: what the functions that read one promise.
use Rattle.std.specs.Prelude.{◌≡◌, Bool, true, List, [], ◌∷◌, ◌++◌, ℕ, suc, ◌+◌, ◌≤◌, ◌<◌, eqb, length, take, drop, Option, Some, None, Result, Ok, Err}
use Rattle.scan.specs.Text.{before, most}
use Rattle.lists.specs.Block.{block}
use Rattle.lists.specs.Passing.{all}
use Rattle.fields.specs.Fields.{is_zero}
use Rattle.wording.specs.Text.{exception_text}
use Rattle.wording.specs.Words.{word_of}
use Rattle.parsing.specs.declared.line.Fields.{Fields}
use Rattle.parsing.specs.declared.line.LineError.{LineError}
use Rattle.parsing.specs.declared.line.LineError.TheVariants.{NoKind, NoField, NoException, TooLong}
use Rattle.parsing.specs.Parsing.{Small}

-- an answer that says whether something holds
abbrev pub Whether : Type 0 → Bool → Type 0
Whether P r = (r ≡ true → P) × (P → r ≡ true)

-- whether a text begins with a word
abbrev pub Begins : List ℕ → List ℕ → Bool → Type 0
Begins text word r = (r ≡ true → text ≡ word ++ drop (length word) text) × ((rest : List ℕ) → text ≡ word ++ rest → r ≡ true)

abbrev pub is_space : ℕ → Bool
is_space byte = eqb byte 32

-- a word ends where nothing follows, or a space
abbrev pub Ends : List ℕ → Type 0
Ends rest = before is_space rest ≡ 0

-- a text stands at a place, and the line goes on at the next
pub record Stands (text line : List ℕ) (at next : ℕ) : Type 0 where
  pub within : next ≤ length line
  pub is : drop at line ≡ text ++ drop next line

abbrev pub Sound : (ℕ → List ℕ) → List ℕ → ℕ → Option (ℕ × ℕ) → Type 0
Sound text line at (Some (n, next)) = Stands (text n) line at next
Sound text line at None = at ≤ length line

-- the value whose text stands at a place, up to a space or the end
pub record ReadsAt (text : ℕ → List ℕ) (line : List ℕ) (at : ℕ) (r : Option (ℕ × ℕ)) : Type 0 where
  pub sound : Sound text line at r
  pub only : (n : ℕ) (rest : List ℕ) → n ≤ most → Ends rest → drop at line ≡ text n ++ rest → r ≡ Some (n, at + length (text n))

-- ---- values one after the other: that of number i has the text `text i`
unfoldable pub run : (ℕ → ℕ → List ℕ) → ℕ → List ℕ → List ℕ
run text i [] = []
run text i (n ∷ more) = text i n ++ run text (suc i) more

-- these values were read from a place on to the next, of so many in all; and where as many stand, they are these and more
pub record Passed (text : ℕ → ℕ → List ℕ) (all : ℕ) (line : List ℕ) (at next : ℕ) (ns : List ℕ) : Type 0 where
  pub stands : Stands (run text 0 ns) line at next
  pub only : (ms rest : List ℕ) → length ms ≡ all → Small ms → Ends rest → drop at line ≡ run text 0 ms ++ rest
      → (take (length ns) ms ≡ ns) × (drop next line ≡ run text (length ns) (drop (length ns) ms) ++ rest)

-- fewer values stand at a place
abbrev pub Lacks : (ℕ → ℕ → List ℕ) → ℕ → List ℕ → ℕ → Type 0
Lacks text all line at = (ms rest : List ℕ) → length ms ≡ all → Small ms → Ends rest → drop at line ≡ run text 0 ms ++ rest → ⊥

-- so many values were read into a row, with zeros after them
pub record Row (text : ℕ → ℕ → List ℕ) (n : ℕ) (line : List ℕ) (at : ℕ) (read : Fields) : Type 0 where
  pub passed : Passed text n line at read.end (take n read.values)
  pub width : length read.values ≡ 13
  pub zeros : all is_zero (drop n read.values) ≡ true

abbrev pub Walked : (ℕ → ℕ → List ℕ) → ℕ → List ℕ → ℕ → List ℕ → Result ℕ ℕ → Type 0
Walked text all line at ns (Ok next) = Passed text all line at next ns
Walked text all line at ns (Err i) = (i < all) × Lacks text all line at

-- ---- a line's beginning and its end
abbrev pub KindIn : List ℕ → Option ℕ → Type 0
KindIn word (Some kind) = (kind < 13) × (word ≡ word_of kind)
KindIn word None = (kind : ℕ) → kind < 13 → word ≡ word_of kind → ⊥

-- behind the fields stand the exceptions announced, at most 400, and nothing after them
pub record Tailed (line : List ℕ) (at announced : ℕ) (list : List ℕ) : Type 0 where
  pub few : announced ≤ 400
  pub text : drop at line ≡ block exception_text (take announced list)
  pub only : (es : List ℕ) → length es ≡ announced → Small es → drop at line ≡ block exception_text es → es ≡ take announced list

abbrev pub NoTail : List ℕ → ℕ → ℕ → Type 0
NoTail line at announced =
    (es : List ℕ) → length es ≡ announced → announced ≤ 400 → Small es → drop at line ≡ block exception_text es → ⊥

-- what is refused there is an exception of so many, or what follows them
abbrev pub Behind : ℕ → ℕ → LineError → Type 0
Behind kind announced NoKind = ⊥
Behind kind announced (NoField k field) = ⊥
Behind kind announced (NoException k many read) = (k ≡ kind) × (many ≡ announced) × (read < announced)
Behind kind announced (TooLong k) = k ≡ kind

abbrev pub Tail : List ℕ → ℕ → ℕ → ℕ → List ℕ → Result Unit LineError → Type 0
Tail line at kind announced list (Ok done) = Tailed line at announced list
Tail line at kind announced list (Err error) = Behind kind announced error × NoTail line at announced
