-- How a value is read: the word up to the next space is guessed, and its text compared. And how values are read one after the other.
use Rattle.std.specs.Prelude.{◌≡◌, take, drop, Option, Some, None}
use Rattle.std.proofs.Math.Path.{refl, sym, ap}
use Rattle.std.proofs.Common.{◌∙◌, zero-add, add-one, ne_eqb, length-append, take-append-drop, drop-drop, drop-cons, take-suc}
use mathlib.Core.List.{List, [], ◌∷◌, ◌++◌, append_assoc, append-nil}
use Prim.Native.Nat.{ℕ, zero, suc, ◌+◌, ◌-◌, ◌≤◌, ◌<◌, max}
use native.Mathlib.Omega.{arith}
use Rattle.std.proofs.Math.ListN.{length, get_or, length-drop}
use Rattle.std.proofs.Math.Seq.{take-append_seam, drop-append_seam}
use Rattle.lists.specs.All.{All, none_left, and-more, all-weaken}
use Rattle.scan.specs.Text.{before, byte_end, most}
use Rattle.decimal.specs.Put.{Put}
use Rattle.decimal.proofs.PutLaws.{put-length}
use Rattle.wording.specs.Text.{value_text}
use Rattle.wording.specs.declared.values.Style.{Style}
use Rattle.parsing.specs.Guess.{guessed}
use Rattle.parsing.specs.GuessLaws.{Seen, value-seen, guess-right, before-passed}
use Rattle.parsing.specs.Parsing.{Small}
use Rattle.parsing.specs.Places.{is_space, Ends, Sound, ReadsAt, run, Passed, Lacks}

-- ---- places
-- behind a text the line goes on
pub goes_on : (line text rest : List ℕ) (at : ℕ) → drop at line ≡ text ++ rest → drop (at + length text) line ≡ rest
goes_on line text rest at e = sym (drop-drop (length text) at line) ∙ ap (drop (length text)) e ∙ drop-append_seam text rest

-- a text that stands at a place ends within the line
pub ends-within : (line text rest : List ℕ) (at : ℕ) → at ≤ length line → drop at line ≡ text ++ rest → at + length text ≤ length line
ends-within line text rest at h e = omega (arith, length-drop at line, ap length e, length-append text rest)

-- a word without spaces ends at its own end
pub word_end : (line text rest : List ℕ) (at : ℕ) → All Seen text → Ends rest → drop at line ≡ text ++ rest → byte_end 32 line at ≡ at + length text
word_end line text rest at seen ends e =
    let passed = before-passed is_space rest (all-weaken (λ b h. ne_eqb b 32 (λ f. omega arith)) seen) in
    let same = ap (before is_space) e in
    omega arith

pub part-between : (line : List ℕ) (at end : ℕ) → at ≤ end → drop at line ≡ take (end - at) (drop at line) ++ drop end line
part-between line at end h =
    let same : at + (end - at) ≡ end = omega arith in
    sym (take-append-drop (end - at) (drop at line)) ∙ ap (λ l. take (end - at) (drop at line) ++ l) (drop-drop (end - at) at line ∙ ap (λ k. drop k line) same)

-- ---- a text that was put into a room of its own
module _ {room room' text : List ℕ} {after : ℕ} (fits : length text ≤ length room) (put : Put room 0 text after room') where
  pub put-size : after ≡ length text
  put-size = put.place ∙ zero-add (length text)

  pub put-within : after ≤ length room'
  put-within = omega (arith, put-length (omega arith) put, put-size)

  pub put-taken : take after room' ≡ text
  put-taken = rw (put-size, put.holds) (take-append_seam text (drop (length text) room))

-- a word at the start of what is left of a line
pub word_stands : (line word rest : List ℕ) (at : ℕ) → rest ≡ drop at line → rest ≡ word ++ drop (length word) rest
    → drop at line ≡ word ++ drop (at + length word) line
word_stands line word rest at same e =
    sym same ∙ e ∙ ap (λ l. word ++ l) (ap (drop (length word)) same ∙ drop-drop (length word) at line)

-- ---- a value
module _ (style : Style) (line : List ℕ) (at end value : ℕ) (here : at ≤ length line) (last : end ≡ byte_end 32 line at) (before : at ≤ end)
    (within : end ≤ max at (length line)) (guess : value ≡ guessed style (take (end - at) (drop at line))) where
  abbrev word : List ℕ
  word = take (end - at) (drop at line)

  -- where a value's text stands, it is the word, and the guess is the value
  right : (n : ℕ) (rest : List ℕ) → n ≤ most → Ends rest → drop at line ≡ value_text style n ++ rest
      → (word ≡ value_text style n) × (value ≡ n) × (end ≡ at + length (value_text style n))
  right n rest h ends e =
      let text = value_text style n in
      let stop : end ≡ at + length text = last ∙ word_end line text rest at (value-seen style n) ends e in
      let long : end - at ≡ length text = omega arith in
      let same : word ≡ text = rw (long, e) (take-append_seam text rest) in
      (same, guess ∙ ap (guessed style) same ∙ guess-right style n h, stop)

  pub value_taken : word ≡ value_text style value → ReadsAt (value_text style) line at (Some (value, end))
  value_taken same =
      record {
        sound =
            record {
              within = omega arith;
              is = part-between line at end before ∙ ap (λ l. l ++ drop end line) same;
            };
        only = λ n rest h ends e. let r = right n rest h ends e in rw (r.1, r.2);
      }

  pub value-refused : (word ≡ value_text style value → ⊥) → ReadsAt (value_text style) line at None
  value-refused other =
      record {
        sound = here;
        only = λ n rest h ends e. let r = right n rest h ends e in absurd (other (r.0 ∙ ap (value_text style) (sym r.1)));
      }

-- ---- a value behind a label
module _ (label : List ℕ) (text : ℕ → List ℕ) (line : List ℕ) (at : ℕ) where
  sound-behind : (r : Option (ℕ × ℕ)) → drop at line ≡ label ++ drop (at + length label) line → at ≤ length line
      → Sound text line (at + length label) r → Sound (λ n. label ++ text n) line at r
  sound-behind (Some (n, next)) e h s =
      record {
        within = s.within;
        is = e ∙ ap (λ l. label ++ l) s.is ∙ sym (append_assoc label (text n) (drop next line));
      }
  sound-behind None e h s = h

  pub labelled : (r : Option (ℕ × ℕ)) → drop at line ≡ label ++ drop (at + length label) line → at ≤ length line
      → ReadsAt text line (at + length label) r → ReadsAt (λ n. label ++ text n) line at r
  labelled r e h a =
      record {
        sound = sound-behind r e h a.sound;
        only =
            λ n rest k ends f.
            let behind = goes_on line label (text n ++ rest) at (f ∙ append_assoc label (text n) rest) in
            let long : at + length label + length (text n) ≡ at + length (label ++ text n) = omega (arith, length-append label (text n)) in
            a.only n rest k ends behind ∙ ap (λ z. Some (n, z)) long;
      }

  pub unlabelled : at ≤ length line → ((rest : List ℕ) → drop at line ≡ label ++ rest → ⊥) → ReadsAt (λ n. label ++ text n) line at None
  unlabelled h other =
      record {
        sound = h;
        only = λ n rest k ends f. absurd (other (text n ++ rest) (f ∙ append_assoc label (text n) rest));
      }

-- ---- values one after the other
module _ (text : ℕ → ℕ → List ℕ) where
  run-last : (i : ℕ) (ns : List ℕ) (n : ℕ) → run text i (ns ++ (n ∷ [])) ≡ run text i ns ++ text (i + length ns) n
  unfolding run
  run-last i [] n = let same : i + 0 ≡ i = omega arith in rw same (append-nil (text i n))
  run-last i (m ∷ ns) n =
      let same : suc i + length ns ≡ i + suc (length ns) = omega arith in
      ap (λ l. text i m ++ l) (run-last (suc i) ns n ∙ ap (λ k. run text (suc i) ns ++ text k n) same)
      ∙ sym (append_assoc (text i m) (run text (suc i) ns) (text (i + suc (length ns)) n))

  -- what follows a value begins with a space
  abbrev pub Spaced : ℕ → Type 0
  Spaced all = (i n : ℕ) (rest : List ℕ) → i < all → Ends (text i n ++ rest)

  pub run_ends : (all i : ℕ) (ns rest : List ℕ) → Spaced all → i + length ns ≤ all → Ends rest → Ends (run text i ns ++ rest)
  unfolding run
  run_ends all i [] rest spaced h ends = ends
  run_ends all i (n ∷ ns) rest spaced h ends = rw (append_assoc (text i n) (run text (suc i) ns) rest) (spaced i n (run text (suc i) ns ++ rest) (omega arith))

  pub passed_none : (all : ℕ) (line : List ℕ) (at : ℕ) → at ≤ length line → Passed text all line at at []
  unfolding run
  passed_none all line at h = record { stands = record { within = h; is = refl }; only = λ ms rest k small ends e. (refl, e) }

  module _ (all : ℕ) (line : List ℕ) (at place : ℕ) (ns : List ℕ) (spaced : Spaced all) (p : Passed text all line at place ns) (more : length ns < all) where
    abbrev i : ℕ
    i = length ns

    -- where the values stand, the next of them stands here
    record Ahead (ms rest : List ℕ) : Type 0 where
      first : take i ms ≡ ns
      value : ℕ
      here : value ≡ get_or ms i 0
      small : value ≤ most
      behind : List ℕ
      left : behind ≡ run text (suc i) (drop (suc i) ms) ++ rest
      ends : Ends behind
      is : drop place line ≡ text i value ++ behind

    small_at : {ms : List ℕ} (k : ℕ) → Small ms → get_or ms k 0 ≤ most
    small_at k none_left = omega arith
    small_at zero (and-more h a) = h
    small_at (suc k) (and-more h a) = small_at k a

    ahead : (ms rest : List ℕ) → length ms ≡ all → Small ms → Ends rest → drop at line ≡ run text 0 ms ++ rest → Ahead ms rest
    unfolding run
    ahead ms rest long small ends e =
        let so = p.only ms rest long small ends e in
        let left = run text (suc i) (drop (suc i) ms) in
        let few : i < length ms = omega arith in
        record {
          first = so.0;
          value = get_or ms i 0;
          here = refl;
          small = small_at i small;
          behind = left ++ rest;
          left = refl;
          ends = run_ends all (suc i) (drop (suc i) ms) rest spaced (omega (arith, length-drop (suc i) ms)) ends;
          is = so.1 ∙ rw (drop-cons ms i 0 few) (append_assoc (text i (get_or ms i 0)) left rest);
        }

    pub passed-more : (n next : ℕ) → ReadsAt (text i) line place (Some (n, next)) → Passed text all line at next (ns ++ (n ∷ []))
    passed-more n next r =
        let long : length (ns ++ (n ∷ [])) ≡ suc i = length-append ns (n ∷ []) ∙ add-one i in
        record {
          stands =
              record {
                within = r.sound.within;
                is =
                    p.stands.is
                    ∙ ap (λ l. run text 0 ns ++ l) r.sound.is
                    ∙ sym (append_assoc (run text 0 ns) (text i n) (drop next line))
                    ∙ ap (λ l. l ++ drop next line) (sym (run-last 0 ns n ∙ ap (λ k. run text 0 ns ++ text k n) (zero-add i)));
              };
          only =
              λ ms rest k small ends e.
              let a = ahead ms rest k small ends e in
              let found : ◌≡◌ {A = Option (ℕ × ℕ)} (Some (n, next)) (Some (a.value, place + length (text i a.value))) = r.only a.value a.behind a.small a.ends a.is in
              let both : ◌≡◌ {A = ℕ × ℕ} (n, next) (a.value, place + length (text i a.value)) = cc in
              let same : n ≡ a.value = ap (λ k. k.0) both in
              let stop : next ≡ place + length (text i a.value) = ap (λ k. k.1) both in
              let few : i < length ms = omega arith in (
                rw (long, take-suc ms i 0 few, a.first, same, a.here),
                rw (long, stop) (goes_on line (text i a.value) a.behind place a.is ∙ a.left),
              );
        }

    pub passed-stuck : ReadsAt (text i) line place None → Lacks text all line at
    passed-stuck r ms rest k small ends e =
        let a = ahead ms rest k small ends e in
        let found : ◌≡◌ {A = Option (ℕ × ℕ)} None (Some (a.value, place + length (text i a.value))) = r.only a.value a.behind a.small a.ends a.is in
        let z : ◌≡◌ {A = ℕ} 0 1 = cc in
        omega arith
