-- What a line says is what is put: the record's bytes have room, so that the writer refuses none.
use Rattle.std.specs.Prelude.{◌≡◌, refl, true, List, [], ◌++◌, ℕ, ◌+◌, ◌-◌, ◌≤◌, length, take, drop, Result, Ok, Err}
use Rattle.std.proofs.Common.{sym, ap, ◌∙◌, append-nil, arith, length-take, length-drop, drop_of_length-le, length-take-le}
use Rattle.lists.specs.Parts.{part, with_part, part-rest}
use Rattle.fields.specs.Fields.{count, announced, shaped}
use Rattle.fields.specs.FieldLaws.{counts-most, shape-tells}
use Rattle.records.specs.declared.Unwritten.{Unwritten}
use Rattle.records.specs.Records.{writing}
use Rattle.records.specs.Writing.{entry_of, out, written_in}
use Rattle.records.specs.WritingLaws.{size-record, size-short, done}
use Rattle.decimal.specs.Put.{Put}
use Rattle.parsing.specs.Parsing.{OfRecord}
use Rattle.packing.specs.Packs.{RecordPut}

-- the exceptions announced stand first in a list that has room for the most
pub listed-shape : (kind : ℕ) (fields list : List ℕ) → shaped kind fields (announced kind fields) ≡ true → length list ≡ 400
    → shaped kind fields (length (take (announced kind fields) list)) ≡ true
listed-shape kind fields list t e =
    let few = (shape-tells kind fields (announced kind fields) t).few in
    ap (shaped kind fields) (length-take-le (announced kind fields) list (omega arith)) ∙ t

-- ---- what is put
module _ (kind : ℕ) (cells x : List ℕ) (t : shaped kind cells (length x) ≡ true) where
  abbrev bytes : List ℕ
  bytes = writing (entry_of kind cells x)

  pub bytes-length : length bytes ≤ 4140
  bytes-length =
      let s = shape-tells kind cells (length x) t in
      let own = take (count kind) cells in
      let few : length own ≤ 13 = omega (arith, length-take (count kind) cells, counts-most kind) in
      let most : length x ≤ 400 = omega (arith, s.few, s.there) in
      omega (arith, size-record kind own x, size-short kind own x few most)

  module _ (room : List ℕ) (used : ℕ) (fits : used + 4140 ≤ length room) {r : Result ℕ Unwritten} {rest : List ℕ} (e : out r rest ≡ written_in (part used (length room - used) room) kind cells x) where
    written : out r rest ≡ out (Ok (length bytes)) (bytes ++ drop (length bytes) (drop used room))
    written =
        e
        ∙ ap (λ l. written_in l kind cells x) (part-rest used room)
        ∙ done (drop used room) kind cells x t (count kind) refl (omega (arith, bytes-length, length-drop used room))

    is-done : r ≡ Ok (length bytes)
    is-done = ap (λ o. o.answer) written

    pub done-put : (n : ℕ) → r ≡ Ok n → Put room used bytes (used + n) (with_part used (length room - used) room rest)
    done-put n q =
        let a : Ok (length bytes) ≡ Ok n = sym is-done ∙ q in
        let m : length bytes ≡ n = cc in
        let all : length (drop used room) ≤ length room - used = omega (arith, length-drop used room) in
        let none : drop (length room - used) (drop used room) ≡ [] = drop_of_length-le (drop used room) all in
        let there : rest ≡ bytes ++ drop (length bytes) (drop used room) = ap (λ o. o.room) written in
        record {
          place = omega arith;
          holds = ap (λ z. take used room ++ z) (ap (λ z. rest ++ z) none ∙ append-nil rest ∙ there);
        }

    pub never-refused : (why : Unwritten) → r ≡ Err why → ⊥
    never-refused why q =
        let a : Ok (length bytes) ≡ Err why = sym is-done ∙ q in
        let z : ◌≡◌ {A = ℕ} 0 1 = cc in
        absurd (omega arith)

-- ---- a line
pub record-put : {line room room' : List ℕ} {used after : ℕ} (kind : ℕ) (fields list : List ℕ) → length list ≡ 400 → OfRecord line kind fields list
    → Put room used (writing (entry_of kind fields (take (announced kind fields) list))) after room' → RecordPut line room used after room'
record-put kind fields list long said put = record {
  kind = kind;
  fields = fields;
  exceptions = take (announced kind fields) list;
  shape = listed-shape kind fields list said.shape long;
  text = said.text;
  put = put;
}

pub put-most : {line room room' : List ℕ} {used after : ℕ} → RecordPut line room used after room' → after ≤ used + 4140
put-most h = omega (arith, h.put.place, bytes-length h.kind h.fields h.exceptions h.shape)
