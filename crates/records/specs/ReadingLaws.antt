-- The steps by which a record is read, from place to place, and what the answer's places mean.
use Rattle.std.specs.Prelude.{◌≡◌, Bool, List, [], ◌∷◌, ◌++◌, ℕ, zero, suc, ◌+◌, ◌-◌, ◌≤◌, ◌<◌, ◌^◌, ltb, get_or, set, replicate}
use Rattle.std.proofs.Math.Path.{refl, sym, ap}
use Rattle.std.proofs.Common.{ap₂, ◌∙◌, subst, append_assoc, length-drop, drop_of_length-le, drop-drop, lt-ltb, le-ltb}
use Rattle.std.proofs.Math.Bool.{true, false, cond}
use native.Mathlib.Omega.{arith}
use Rattle.std.proofs.Math.ListN.{length, drop, length-append}
use Rattle.std.proofs.Math.Seq.{drop-append_seam, append_snoc}
use Rattle.std.proofs.lemmas.List.{set_at}
use Rattle.numbers.specs.Below.{Small, below-drop, below_right}
use Rattle.numbers.specs.Seven.{none, unbounded, encode, decode}
use Rattle.numbers.specs.SevenLaws.{groups-some}
use Rattle.numbers.specs.Several.{Numbers, nothing, some, on_some, write_of, many}
use Rattle.numbers.specs.SeveralLaws.{many-write}
use Rattle.decoding.specs.Place.{ended}
use Rattle.decoding.specs.PlaceLaws.{Moved, moved-size, end-here}
use Rattle.fields.specs.Fields.{known, count, announced}
use Rattle.std.specs.Prelude.{None, Some, Result, Ok, Err}
use Rattle.records.specs.declared.Fields.{Fields}
use Rattle.records.specs.declared.Malformed.{Malformed}
use Rattle.records.specs.declared.Record.{Record}
use Rattle.records.specs.Records.{entry, writing, Parsed, unread, parsed, reading}
use Rattle.records.specs.RecordLaws.{Whole, reading-only, writing-rest}
use Rattle.records.specs.Reading.{padded, malformed_at, record_at, placed, reading_at}
use Rattle.records.specs.Steps.{filled, after_fields}

-- ---- fields in a row
-- zeros after a list change none of its elements
zeros-after : (n i : ℕ) → ◌≡◌ {A = ℕ} (get_or (replicate n 0) i 0) 0
zeros-after zero i = refl
zeros-after (suc n) zero = refl
zeros-after (suc n) (suc i) = zeros-after n i

pub padded-at : (l : List ℕ) (n i : ℕ) → get_or (l ++ replicate n 0) i 0 ≡ get_or l i 0
padded-at [] n i = zeros-after n i
padded-at (x ∷ l) n zero = refl
padded-at (x ∷ l) n (suc i) = padded-at l n i

pub announced-padded : (kind : ℕ) (fields : List ℕ) → announced kind (padded fields) ≡ announced kind fields
announced-padded kind fields = rw (padded-at fields (13 - length fields) 2)

-- a number stored after the others
pub store : (a : List ℕ) (i x : ℕ) → i < 13 → length a ≡ i → set (a ++ replicate (13 - i) 0) i x ≡ (a ++ (x ∷ [])) ++ replicate (13 - (i + 1)) 0
store a i x h e =
    let z : 13 - i ≡ suc (13 - (i + 1)) = omega arith in
    rw (z, set_at a 0 (replicate (13 - (i + 1)) 0) x i e) (sym (append_snoc a x (replicate (13 - (i + 1)) 0)))

pub filled_none : (s : List ℕ) (g : Numbers) → filled s g ≡ None → g ≡ nothing
filled_none s nothing e = refl
filled_none s (some l rest) e = cc

pub filled_end : (s : List ℕ) (g : Numbers) (read : Fields) → filled s g ≡ Some read → ended s g ≡ Some read.end
filled_end s nothing read e = cc
filled_end s (some l rest) read e = cc

pub filled_row : (s : List ℕ) (g : Numbers) (read : Fields) (l rest : List ℕ) → filled s g ≡ Some read → g ≡ some l rest → read.values ≡ padded l
filled_row s nothing read l rest e h = cc
filled_row s (some m r) read l rest e h = cc

-- ---- the steps
module _ (s : List ℕ) (at kind start : ℕ) where
  pub no_number : decode (drop at s) ≡ none → reading_at s at ≡ malformed_at at
  unfolding reading
  no_number e = rw e

  pub no_kind : Moved s at kind start → known kind ≡ false → reading_at s at ≡ malformed_at at
  unfolding reading
  no_kind m h = rw (m.is, h)

  pub no_fields : Moved s at kind start → known kind ≡ true → many (count kind) (drop start s) ≡ nothing → reading_at s at ≡ malformed_at at
  unfolding reading
  no_fields m h e = rw (m.is, h, e)

  pub fields_read : Moved s at kind start → known kind ≡ true → Small s → (fields : List ℕ) (more : ℕ) → many (count kind) (drop start s) ≡ some fields (drop more s)
      → more ≡ start + length (write_of fields) → reading_at s at ≡ after_fields s at kind (padded fields) more
  unfolding reading write_of
  fields_read m h small fields more e p =
      let t = moved-size s at kind start small m in
      let u : at + length (encode kind ++ write_of fields) ≡ more = ap (λ z. at + z) (length-append (encode kind) (write_of fields)) ∙ omega arith in
      rw (m.is, h, e, announced-padded kind fields) (go (ltb 400 (announced kind fields)) (many (announced kind fields) (drop more s)) u)
    where
      go : (t : Bool) (g : Numbers) → at + length (encode kind ++ write_of fields) ≡ more
          → placed s at (cond t unread (on_some g unread λ exceptions rest. parsed (entry kind fields exceptions) rest))
          ≡ cond t (malformed_at at) (on_some g (malformed_at at) λ exceptions rest. record_at (length s - length rest) kind (padded fields) more)
      go true g u = refl
      go false nothing u = refl
      go false (some x rest) u = ap (record_at (length s - length rest) kind (padded fields)) u

-- ---- the exceptions of a record whose own fields were read
module _ (s : List ℕ) (first kind : ℕ) (row : List ℕ) (more : ℕ) where
  pub too_many : 400 < announced kind row → after_fields s first kind row more ≡ malformed_at first
  too_many k = rw (lt-ltb 400 (announced kind row) k)

  pub no-exceptions : announced kind row ≤ 400 → many (announced kind row) (drop more s) ≡ nothing → after_fields s first kind row more ≡ malformed_at first
  no-exceptions k q = rw (le-ltb 400 (announced kind row) k, q)

  pub finished : announced kind row ≤ 400 → (exceptions : List ℕ) (next : ℕ) → many (announced kind row) (drop more s) ≡ some exceptions (drop next s) → next ≤ length s
      → after_fields s first kind row more ≡ record_at next kind row more
  finished k x next q i = rw (le-ltb 400 (announced kind row) k, q, end-here s next i)

-- ---- what is left as a part
-- "A place at or past the end is a record cut short."
pub past_end : (s : List ℕ) (at : ℕ) → length s ≤ at → reading_at s at ≡ malformed_at at
unfolding reading unbounded
past_end s at h = rw (drop_of_length-le s h)

pub rest-none : (s : List ℕ) (p : ℕ) → length s ≤ p → reading_at (drop p s) 0 ≡ malformed_at 0
rest-none s p h = past_end (drop p s) 0 (omega (arith, length-drop p s))

-- ---- what the places mean
-- a record in the bytes s from a place on: next is the place after it, and its exceptions have a place of their own
pub record Lies (s : List ℕ) (at next kind : ℕ) (own exceptions : List ℕ) (place : ℕ) : Type 0 where
  pub whole : Whole (entry kind own exceptions)
  pub bytes : drop at s ≡ writing (entry kind own exceptions) ++ drop next s
  pub there : many (length exceptions) (drop place s) ≡ some exceptions (drop next s)
  pub on : at < place
  pub before : place ≤ next
  pub inside : next ≤ length s

-- the record of which the reader answers the kind and the row of fields
pub record Stands (s : List ℕ) (at next kind : ℕ) (fields : List ℕ) (place : ℕ) : Type 0 where
  pub own : List ℕ
  pub exceptions : List ℕ
  pub row : fields ≡ padded own
  pub lies : Lies s at next kind own exceptions place

module _ (s : List ℕ) (at : ℕ) (small : Small s) where
  pub lies : (k : ℕ) (f x rest : List ℕ) → reading (drop at s) ≡ parsed (entry k f x) rest → Lies s at (length s - length rest) k f x (at + length (write_of (k ∷ f)))
  unfolding write_of
  lies k f x rest e =
      let a = reading-only (drop at s) (entry k f x) rest (below-drop 256 s at small) e in
      let front = encode k ++ write_of f in
      let split : drop at s ≡ front ++ (write_of x ++ rest) = a.0 ∙ writing-rest k f x rest ∙ sym (append_assoc (encode k) (write_of f) (write_of x ++ rest)) in
      let long : length s - at ≡ length front + (length (write_of x) + length rest) = sym (length-drop at s) ∙ ap length split ∙ length-append front (write_of x ++ rest) ∙ ap (λ z. length front + z) (length-append (write_of x) rest) in
      let some = groups-some 9 k in
      let two = length-append (encode k) (write_of f) in
      let next : length s - length rest ≡ at + (length front + length (write_of x)) = omega arith in
      let left : drop (at + length front) s ≡ write_of x ++ rest = sym (drop-drop (length front) at s) ∙ ap (drop (length front)) split ∙ drop-append_seam front (write_of x ++ rest) in
      let sum : at + (length front + length (write_of x)) ≡ at + length front + length (write_of x) = omega arith in
      let end : drop (length s - length rest) s ≡ rest = ap (λ z. drop z s) (next ∙ sum) ∙ sym (drop-drop (length (write_of x)) (at + length front) s) ∙ ap (drop (length (write_of x))) left ∙ drop-append_seam (write_of x) rest in
      record {
        whole = a.1;
        bytes = rw end a.0;
        there = rw (left, end) (many-write x rest (below_right (2 ^ 64) (k ∷ f) x a.1.fit));
        on = omega arith;
        before = omega arith;
        inside = omega arith;
      }

  pub reads_on : (next kind : ℕ) (fields : List ℕ) (place : ℕ) → reading_at s at ≡ record_at next kind fields place → Stands s at next kind fields place
  reads_on next kind fields place e = go (reading (drop at s)) refl e
    where
      go : (g : Parsed) → reading (drop at s) ≡ g → placed s at g ≡ record_at next kind fields place → Stands s at next kind fields place
      go unread h q = let z : ◌≡◌ {A = ℕ} 0 1 = cc in absurd (omega arith)
      go (parsed e rest) h q =
          let same : ◌≡◌ {A = Record} (record { kind = e.kind; fields = padded e.fields; more = at + length (write_of (e.kind ∷ e.fields)); next = length s - length rest })
          (record { kind = kind; fields = fields; more = place; next = next }) = cc in
          subst (λ r. Stands s at r.next r.kind r.fields r.more) same
          (record { own = e.fields; exceptions = e.exceptions; row = refl; lies = lies e.kind e.fields e.exceptions rest h })

-- ---- the places of a part, as places of the whole
abbrev pub shifted : ℕ → Result Record Malformed → Result Record Malformed
shifted at (Ok r) = record_at (at + r.next) r.kind r.fields (at + r.more)
shifted at (Err bad) = malformed_at (at + bad.at)

pub reading-part : (s : List ℕ) (at : ℕ) → Small s → at ≤ length s → reading_at s at ≡ shifted at (reading_at (drop at s) 0)
reading-part s at small h = go (reading (drop at s)) refl
  where
    zero-on : at + 0 ≡ at
    zero-on = omega arith

    go : (g : Parsed) → reading (drop at s) ≡ g → placed s at g ≡ shifted at (placed (drop at s) 0 g)
    go unread e = rw zero-on
    go (parsed m rest) e =
        let a = reading-only (drop at s) m rest (below-drop 256 s at small) e in
        let l : length s - at ≡ length (writing m) + length rest = sym (length-drop at s) ∙ ap length a.0 ∙ length-append (writing m) rest in
        let d = length-drop at s in
        let n : length s - length rest ≡ at + (length (drop at s) - length rest) = omega arith in
        let w = length (write_of (m.kind ∷ m.fields)) in
        let p : at + w ≡ at + (0 + w) = omega arith in
        ap₂ (λ (i j : ℕ). record_at i m.kind (padded m.fields) j) n p
