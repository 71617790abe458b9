-- What was written reads back the same, what reads is what is written, and what the writer refuses no reader takes.
use Rattle.std.specs.Prelude.{◌≡◌, refl, Bool, true, false, List, [], ◌∷◌, ◌++◌, ℕ, zero, suc, ◌+◌, ◌-◌, ◌≤◌, ◌<◌, length, take, drop, replicate, Ok, Err}
use Rattle.std.proofs.Common.{sym, ap, ap₂, ◌∙◌, subst₂, append_assoc, zero-add, arith, length-append, length-drop, take-append-drop, take_at, drop_at, get_or-take, length-take-le}
use Rattle.std.proofs.Math.Bool.{and-eq-true_iff}
use Rattle.std.proofs.Math.Decide.{ℕ_discrete, dec_lt}
use Rattle.std.proofs.Math.Seq.{drop-append_seam}
use borrow.Author.Tests.{lt-ltb, le-ltb, le-leb, eqb-true, eq-eqb, ne_eqb}
use Rattle.numbers.specs.Below.{Fit, Small, below-append, below-drop}
use Rattle.lists.specs.Passing.{all}
use Rattle.numbers.specs.Seven.{encode}
use Rattle.numbers.specs.SevenLaws.{groups-most}
use Rattle.numbers.specs.Several.{some, write_of, many}
use Rattle.encoding.specs.Sizes.{size-most}
use Rattle.encoding.specs.Put.{put, put-append}
use Rattle.fields.specs.Fields.{kinds, count, announced, is_zero, shaped}
use Rattle.fields.specs.FieldLaws.{is_known, counts-most, shape-tells}
use Rattle.records.specs.declared.Unwritten.TheVariants.{Malformed, NoRoom}
use Rattle.records.specs.Records.{Entry, entry, writing, reading, parsed}
use Rattle.records.specs.RecordLaws.{Whole, writing-parts, writing-small, reading-writing}
use Rattle.records.specs.Reading.{padded, record_at, reading_at}
use Rattle.records.specs.ReadingLaws.{Stands, lies, reads_on, announced-padded}
use Rattle.records.specs.Writing.{entry_of, out, written_in}

-- ---- the bytes of a record, part by part
three : (room r₁ r₂ r₃ a b c : List ℕ) (i j : ℕ) → length a + length b ≤ length room → i ≡ 0 + length a → j ≡ i + length b
    → r₁ ≡ put room 0 a → r₂ ≡ put r₁ i b → r₃ ≡ put r₂ j c → r₃ ≡ put room 0 (a ++ (b ++ c))
three room r₁ r₂ r₃ a b c i j h ei ej e₁ e₂ e₃ =
    let t : r₂ ≡ put room 0 (a ++ b) = e₂ ∙ ap₂ (λ (r : List ℕ) (k : ℕ). put r k b) e₁ ei ∙ put-append room 0 a b (omega arith) in
    let k : j ≡ 0 + length (a ++ b) = omega (arith, length-append a b) in
    e₃ ∙ ap₂ (λ (r : List ℕ) (k : ℕ). put r k c) t k ∙ put-append room 0 (a ++ b) c (omega (arith, length-append a b)) ∙ ap (put room 0) (append_assoc a b c)

pub size-record : (k : ℕ) (f x : List ℕ) → length (writing (entry k f x)) ≡ length (encode k) + length (write_of f) + length (write_of x)
size-record k f x =
    omega (arith, ap length (writing-parts k f x), length-append (encode k) (write_of f ++ write_of x), length-append (write_of f) (write_of x))

pub all-put : (room r₁ r₂ r₃ : List ℕ) (k : ℕ) (f x : List ℕ) (i j : ℕ) → length (encode k) + length (write_of f) + length (write_of x) ≤ length room
    → i ≡ 0 + length (encode k) → j ≡ i + length (write_of f)
    → r₁ ≡ put room 0 (encode k) → r₂ ≡ put r₁ i (write_of f) → r₃ ≡ put r₂ j (write_of x)
    → let w = writing (entry k f x) in r₃ ≡ w ++ drop (length w) room
all-put room r₁ r₂ r₃ k f x i j h ei ej e₁ e₂ e₃ =
    three room r₁ r₂ r₃ (encode k) (write_of f) (write_of x) i j (omega arith) ei ej e₁ e₂ e₃
    ∙ rw (writing-parts k f x, zero-add (length (encode k ++ (write_of f ++ write_of x))))

-- a record is short
pub size-short : (k : ℕ) (f x : List ℕ) → length f ≤ 13 → length x ≤ 400 → length (encode k) + length (write_of f) + length (write_of x) ≤ 4140
size-short k f x h i = omega (arith, groups-most 10 k, size-most f, size-most x)

-- ---- a row that has the format's shape
zeros : (l : List ℕ) → all is_zero l ≡ true → l ≡ replicate (length l) 0
unfolding all
zeros [] e = refl
zeros (x ∷ l) e = let a = (and-eq-true_iff (is_zero x) (all is_zero l)).0 e in ap₂ (λ (y : ℕ) (m : List ℕ). y ∷ m) (eqb-true x 0 a.0) (zeros l a.1)

pub zeros-all : (n : ℕ) → all is_zero (replicate n 0) ≡ true
unfolding all
zeros-all zero = refl
zeros-all (suc n) = zeros-all n

module _ (kind : ℕ) (cells x : List ℕ) (thirteen : length cells ≡ 13) where
  abbrev own : List ℕ
  own = take (count kind) cells

  pub own-long : length own ≡ count kind
  own-long = length-take-le (count kind) cells (omega (arith, counts-most kind))

  own-announced : announced kind own ≡ announced kind cells
  unfolding kinds
  own-announced = go (ℕ_discrete kind 0)
    where
      go : Dec (kind ≡ 0) → announced kind own ≡ announced kind cells
      go (yes e) = rw (eq-eqb kind 0 e, e) (get_or-take 3 cells 2 0 (omega arith))
      go (no e) = rw (ne_eqb kind 0 e)

  pub shaped-whole : shaped kind cells (length x) ≡ true → Fit (kind ∷ (own ++ x)) → Whole (entry_of kind cells x)
  shaped-whole t fit = record {
    known = is_known kind (shape-tells kind cells (length x) t).below;
    sized = own-long;
    few = rw own-announced (shape-tells kind cells (length x) t).few;
    more = (shape-tells kind cells (length x) t).there ∙ sym own-announced;
    fit = fit;
  }

  -- the row is the record's own fields with zeros after them
  pub shaped-padded : shaped kind cells (length x) ≡ true → padded own ≡ cells
  shaped-padded t =
      let long : length (drop (count kind) cells) ≡ 13 - length own = length-drop (count kind) cells ∙ ap₂ (λ (i j : ℕ). i - j) thirteen (sym own-long) in
      let z : drop (count kind) cells ≡ replicate (13 - length own) 0 = zeros (drop (count kind) cells) (shape-tells kind cells (length x) t).zeros ∙ ap (λ n. replicate n 0) long in
      ap (λ l. own ++ l) (sym z) ∙ take-append-drop (count kind) cells

-- the row of a record that a reader takes has the format's shape, and makes that record
module _ (e : Entry) (w : Whole e) where
  abbrev row : List ℕ
  row = padded e.fields

  pub row-own : entry_of e.kind row e.exceptions ≡ e
  row-own = ap (λ f. entry e.kind f e.exceptions) (take_at e.fields (replicate (13 - length e.fields) 0) (count e.kind) w.sized)

  pub row-shaped : shaped e.kind row (length e.exceptions) ≡ true
  row-shaped =
      let a = announced-padded e.kind e.fields in
      let d : drop (count e.kind) row ≡ replicate (13 - length e.fields) 0 = drop_at e.fields (replicate (13 - length e.fields) 0) (count e.kind) w.sized in
      rw (w.known, d, zeros-all (13 - length e.fields), a, le-leb (announced e.kind e.fields) 400 w.few, eq-eqb (length e.exceptions) (announced e.kind e.fields) w.more)

-- ---- the writer's answers
module _ (room : List ℕ) (kind : ℕ) (cells x : List ℕ) where
  pub not-shaped : shaped kind cells (length x) ≡ false → written_in room kind cells x ≡ out (Err (Malformed 0)) room
  unfolding written_in
  not-shaped t = rw t

  module _ (t : shaped kind cells (length x) ≡ true) (n : ℕ) (e : n ≡ count kind) where
    pub no_room : length room < length (writing (entry kind (take n cells) x)) → written_in room kind cells x ≡ out (Err NoRoom) room
    unfolding written_in
    no_room q = rw (t, ← e, lt-ltb (length room) (length (writing (entry kind (take n cells) x))) q)

    pub done : let w = writing (entry kind (take n cells) x) in length w ≤ length room → written_in room kind cells x ≡ out (Ok (length w)) (w ++ drop (length w) room)
    unfolding written_in
    done q = rw (t, ← e, le-ltb (length room) (length (writing (entry kind (take n cells) x))) q)

-- ---- what was written reads back as the same record, with the rest of the room as rest
pub record Back (room after : List ℕ) (kind : ℕ) (cells x : List ℕ) (n : ℕ) : Type 0 where
  pub place : ℕ
  pub read : reading_at after 0 ≡ record_at n kind cells place
  pub there : many (length x) (drop place after) ≡ some x (drop n after)
  pub rest : drop n after ≡ drop n room
  pub inside : n ≤ length room

module _ (room : List ℕ) (kind : ℕ) (cells x : List ℕ) (thirteen : length cells ≡ 13) (fit : Fit (kind ∷ (take (count kind) cells ++ x))) (small : Small room) where
  abbrev bytes : List ℕ
  bytes = writing (entry_of kind cells x)

  abbrev left : List ℕ
  left = drop (length bytes) room

  back : shaped kind cells (length x) ≡ true → length bytes ≤ length room → Back room (bytes ++ left) kind cells x (length bytes)
  back t h =
      let long : length (bytes ++ left) - length left ≡ length bytes = omega (arith, length-append bytes left) in
      let read : reading (bytes ++ left) ≡ parsed (entry_of kind cells x) left = reading-writing (entry_of kind cells x) left (shaped-whole kind cells x thirteen t fit) in
      let st = lies (bytes ++ left) 0 (below-append 256 bytes left (writing-small (entry_of kind cells x)) (below-drop 256 room (length bytes) small)) kind (take (count kind) cells) x left read in
      record {
        place = 0 + length (write_of (kind ∷ take (count kind) cells));
        read = rw (read, long, shaped-padded kind cells x thirteen t);
        there = st.there ∙ ap (λ n. some x (drop n (bytes ++ left))) long;
        rest = drop-append_seam bytes left;
        inside = h;
      }

  pub written-reads : (n : ℕ) (after : List ℕ) → written_in room kind cells x ≡ out (Ok n) after → Back room after kind cells x n
  written-reads n after e = go (shaped kind cells (length x)) refl
    where
      go : (t : Bool) → shaped kind cells (length x) ≡ t → Back room after kind cells x n
      go false t =
          let a : Err (Malformed 0) ≡ Ok n = ap (λ o. o.answer) (sym (not-shaped room kind cells x t) ∙ e) in
          let z : ◌≡◌ {A = ℕ} 0 1 = cc in
          absurd (omega arith)
      go true t = fits (dec_lt (length room) (length bytes))
        where
          fits : Dec (length room < length bytes) → Back room after kind cells x n
          fits (yes p) =
              let a : Err NoRoom ≡ Ok n = ap (λ o. o.answer) (sym (no_room room kind cells x t (count kind) refl p) ∙ e) in
              let z : ◌≡◌ {A = ℕ} 0 1 = cc in
              absurd (omega arith)
          fits (no p) =
              let h : length bytes ≤ length room = omega arith in
              let q : out (Ok (length bytes)) (bytes ++ left) ≡ out (Ok n) after = sym (done room kind cells x t (count kind) refl h) ∙ e in
              let a : Ok (length bytes) ≡ Ok n = ap (λ o. o.answer) q in
              let en : length bytes ≡ n = cc in
              let er : bytes ++ left ≡ after = ap (λ o. o.room) q in
              subst₂ (λ (r : List ℕ) (k : ℕ). Back room r kind cells x k) er en (back t h)

-- ---- what reads is what is written
written-again : (room : List ℕ) (e : Entry) (n : ℕ) → Whole e → length (writing e) ≡ n → n ≤ length room
    → written_in room e.kind (padded e.fields) e.exceptions ≡ out (Ok n) (writing e ++ drop n room)
written-again room e n w l h =
    let o : entry_of e.kind (padded e.fields) e.exceptions ≡ e = row-own e w in
    let k : length (writing (entry_of e.kind (padded e.fields) e.exceptions)) ≤ length room = omega (arith, ap (λ y. length (writing y)) o) in
    done room e.kind (padded e.fields) e.exceptions (row-shaped e w) (count e.kind) refl k
    ∙ ap (λ y. out (Ok (length (writing y))) (writing y ++ drop (length (writing y)) room)) o
    ∙ ap (λ k. out (Ok k) (writing e ++ drop k room)) l

module _ (s : List ℕ) (at next kind : ℕ) (cells : List ℕ) (place : ℕ) (small : Small s) (e : reading_at s at ≡ record_at next kind cells place) where
  abbrev found : Stands s at next kind cells place
  found = reads_on s at small next kind cells place e

  abbrev its : Entry
  its = entry kind found.own found.exceptions

  its-long : length (writing its) ≡ next - at
  its-long =
      let a : length s - at ≡ length (writing its) + (length s - next) = sym (length-drop at s) ∙ ap length found.lies.bytes ∙ length-append (writing its) (drop next s) ∙ ap (λ k. length (writing its) + k) (length-drop next s) in
      omega (arith, found.lies.on, found.lies.before, found.lies.inside)

  its-bytes : writing its ≡ take (next - at) (drop at s)
  its-bytes = sym (ap (take (next - at)) found.lies.bytes ∙ take_at (writing its) (drop next s) (next - at) its-long)

  -- what the writer refuses under 1 no reader answers
  pub reads-shaped : shaped kind cells (length found.exceptions) ≡ true
  reads-shaped = ap (λ c. shaped kind c (length found.exceptions)) found.row ∙ row-shaped its found.lies.whole

  pub reads-written : (room : List ℕ) → next - at ≤ length room
      → written_in room kind cells found.exceptions ≡ out (Ok (next - at)) (take (next - at) (drop at s) ++ drop (next - at) room)
  reads-written room h =
      ap (λ c. written_in room kind c found.exceptions) found.row
      ∙ written-again room its (next - at) found.lies.whole its-long h
      ∙ ap (λ b. out (Ok (next - at)) (b ++ drop (next - at) room)) its-bytes
