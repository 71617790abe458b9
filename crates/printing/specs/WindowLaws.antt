-- A part of a file is enough to read a record by: no record is longer than 4140 bytes, and reading looks at nothing past one.
use Rattle.std.specs.Prelude.{◌≡◌, refl, List, ◌∷◌, ◌++◌, ℕ, ◌-◌, ◌≤◌, ◌<◌, length, get_or, take, drop}
use Rattle.std.proofs.Common.{sym, ap, ◌∙◌, append_assoc, arith, length-append, take-append-drop}
use Rattle.std.proofs.lemmas.List.{take-append-le}
use Rattle.std.proofs.Math.Seq.{take-append_seam}
use borrow.Author.Tests.{ltb-true}
use Rattle.numbers.specs.Below.{Small}
use Rattle.numbers.specs.SevenLaws.{groups-last}
use Rattle.encoding.specs.Sizes.{size-most}
use Rattle.fields.specs.Fields.{kinds}
use Rattle.fields.specs.FieldLaws.{counts-most}
use Rattle.records.specs.Records.{Entry, writing, Parsed, unread, parsed, reading}
use Rattle.records.specs.RecordLaws.{Whole, writing-rest, reading-writing, reading-only}
use Rattle.records.specs.ReadingLaws.{lies}

-- a kind, at most thirteen fields and at most 400 exceptions, of ten bytes at most each
pub longest : (e : Entry) → Whole e → length (writing e) ≤ 4140
unfolding writing
longest e w =
    omega (arith, size-most (e.kind ∷ (e.fields ++ e.exceptions)), length-append e.fields e.exceptions, counts-most e.kind)

pub never-read : (e : Entry) (rest : List ℕ) → unread ≡ parsed e rest → ⊥
never-read e rest q = let z : ◌≡◌ {A = ℕ} 0 1 = cc in absurd (omega arith)

module _ (s : List ℕ) where
  -- a record that a part holds is the record of the whole
  pub read-on : {e : Entry} {rest : List ℕ} (more : List ℕ) → Small s → reading s ≡ parsed e rest → reading (s ++ more) ≡ parsed e (rest ++ more)
  read-on {e} {rest} more small q =
      let a = reading-only s e rest small q in
      ap (λ z. reading (z ++ more)) a.0 ∙ ap reading (append_assoc (writing e) rest more) ∙ reading-writing e (rest ++ more) a.1

  -- where a part that is long enough holds none, neither does the whole
  pub unread-on : (more : List ℕ) → Small (s ++ more) → 4140 ≤ length s → reading s ≡ unread → reading (s ++ more) ≡ unread
  unread-on more small long q = go (reading (s ++ more)) refl
    where
      go : (g : Parsed) → reading (s ++ more) ≡ g → reading (s ++ more) ≡ unread
      go unread h = h
      go (parsed e rest) h =
          let a = reading-only (s ++ more) e rest small h in
          let size = length (writing e) in
          let short : size ≤ length s = omega (arith, longest e a.1) in
          let front : take size s ≡ writing e =
          sym (take-append-le size s more short) ∙ ap (take size) a.0 ∙ take-append_seam (writing e) rest in
          let parts : s ≡ writing e ++ drop size s = sym (take-append-drop size s) ∙ ap (λ z. z ++ drop size s) front in
          absurd (never-read e (drop size s) (sym q ∙ ap reading parts ∙ reading-writing e (drop size s) a.1))

  -- a known kind is its own first byte
  pub kind-first : {e : Entry} {rest : List ℕ} → Small s → reading s ≡ parsed e rest → get_or s 0 0 ≡ e.kind
  unfolding kinds
  kind-first {e} {rest} small q =
      let a = reading-only s e rest small q in
      let low = ltb-true e.kind 13 a.1.known in
      rw (a.0, writing-rest e.kind e.fields e.exceptions rest, groups-last 9 e.kind (omega arith))

-- the place after a record is further on and within the bytes, and what is left stands there
pub record Ends (s : List ℕ) (at next : ℕ) (rest : List ℕ) : Type 0 where
  pub on : at < next
  pub inside : next ≤ length s
  pub left : drop next s ≡ rest

pub record-ends : (s : List ℕ) (at : ℕ) {e : Entry} {rest : List ℕ} → Small s → reading (drop at s) ≡ parsed e rest
    → Ends s at (length s - length rest) rest
record-ends s at {e} {rest} small q =
    let next = length s - length rest in
    let l = lies s at small e.kind e.fields e.exceptions rest q in
    let on = l.on in
    let before = l.before in
    let same : parsed e rest ≡ parsed e (drop next s) = sym q ∙ ap reading l.bytes ∙ reading-writing e (drop next s) l.whole in
    record { on = omega arith; inside = l.inside; left = cc }
