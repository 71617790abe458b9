-- The sizes add up to the record's, and three writes one after the other put the record whole.
use mathlib.Core.Path.{◌≡◌, sym, ap₂, ◌∙◌, subst}
use mathlib.Core.Bool.{true}
use mathlib.Core.List.{List}
use Prim.Native.Nat.{ℕ, ◌+◌, ◌≤◌, ◌<◌}
use native.Mathlib.Omega.{arith}
use lib.ListN.{length, take}
use lib.Seq.{length-take-le}
use borrow.Author.Rules.{rules}
use Rattle.std.specs.Prelude.{Ok}
use Rattle.numbers.specs.Seven.{encode}
use Rattle.numbers.specs.Several.{write_of}
use Rattle.fields.specs.Fields.{count, shaped}
use Rattle.fields.specs.FieldLaws.{counts-most, counted, uncounted, shape-tells}
use Rattle.records.specs.Records.{entry, writing}
use Rattle.records.specs.Writing.{out}
use Rattle.records.specs.WritingLaws.{size-record, size-short, all-put, not-shaped, no_room, done}
use Rattle.records.proofs.write_record.Goals as goal
use Rattle.records.proofs.write_record.Goals.{In_ok-n}

-- What is known of a row that has the format's shape, and of how many fields its kind has.
record Row (kind n : ℕ) (cells exceptions : List ℕ) : Type 0 where
  shape : shaped kind cells (length exceptions) ≡ true
  fields : n ≡ count kind
  thirteen : length cells ≡ 13

module _ (kind n : ℕ) (cells exceptions : List ℕ) (row : Row kind n cells exceptions) where
  within : n ≤ length cells
  within = omega (arith, row.fields, counts-most kind, row.thirteen)

  own-long : length (take n cells) ≡ n
  own-long = length-take-le n cells within

  own-short : length (take n cells) ≤ 13
  own-short = omega (arith, own-long, row.fields, counts-most kind)

  few : length exceptions ≤ 400
  few = let s = shape-tells kind cells (length exceptions) row.shape in omega (arith, s.few, s.there)

  short : length (encode kind) + length (write_of (take n cells)) + length (write_of exceptions) ≤ 4140
  short = size-short kind (take n cells) exceptions own-short few

known : (c : In_ok-n) → Row c.args.kind c.in_ok-n.n c.args.fields c.args.exceptions.now
known c = record {
  shape = sym c.is_shaped.ensures ∙ c.if-not-is_shaped.false;
  fields = (counted c.args.kind c.in_ok-n.n (sym c.count_of.ensures ∙ c.in_ok-n.ensures.ok_part)).1;
  thirteen = search rules;
}

pub returns-then-not-is_shaped : goal.returns-then-not-is_shaped
returns-then-not-is_shaped c =
    let a = c.args in
    sym (not-shaped a.room.now a.kind a.fields a.exceptions.now (sym c.is_shaped.ensures ∙ c.if-not-is_shaped.true))

pub returns-in_err-n : goal.returns-in_err-n
returns-in_err-n c =
    let a = c.args in
    let past = uncounted a.kind (sym c.count_of.ensures ∙ c.in_err-n.ensures.ok_part) in
    let shape = sym c.is_shaped.ensures ∙ c.if-not-is_shaped.false in
    let below = (shape-tells a.kind a.fields (length a.exceptions.now) shape).below in
    absurd (omega arith)

pub slice_bounds-fields-end : goal.slice_bounds-fields-end
slice_bounds-fields-end c =
    let row = known (goal.at.slice_bounds-fields-end c).In_ok-n in
    within _ _ _ _ row

pub slice_bounds-numbers_size-end : goal.slice_bounds-numbers_size-end
slice_bounds-numbers_size-end c =
    let row = known (goal.at.slice_bounds-numbers_size-end c).In_ok-n in
    sym (own-long _ _ _ _ row)

pub overflow_add-size : goal.overflow_add-size
overflow_add-size c =
    let row = known (goal.at.overflow_add-size c).In_ok-n in
    omega (arith, c.number_size.ensures, c.numbers_size.ensures, short _ _ _ _ row)

pub overflow_add-size-2 : goal.overflow_add-size-2
overflow_add-size-2 c =
    let row = known (goal.at.overflow_add-size-2 c).In_ok-n in
    omega (arith, c.number_size.ensures, c.numbers_size.ensures, c.numbers_size-2.ensures, short _ _ _ _ row)

pub returns-then-room-size : goal.returns-then-room-size
returns-then-room-size c =
    let room = c.args.room.now in
    let kind = c.args.kind in
    let n = c.in_ok-n.n in
    let cells = c.args.fields in
    let exceptions = c.args.exceptions.now in
    let bytes = writing (entry kind (take n cells) exceptions) in
    let row = known (goal.at.returns-then-room-size c).In_ok-n in
    let sizes : c.number_size.result + c.numbers_size.result + c.numbers_size-2.result ≡ length bytes =
    omega (arith, size-record kind (take n cells) exceptions, c.number_size.ensures, c.numbers_size.ensures, c.numbers_size-2.ensures) in
    sym (no_room room kind cells exceptions row.shape n row.fields (subst (λ z. length room < z) sizes c.if-room-size.true))

pub slice_bounds-fields-end-2 : goal.slice_bounds-fields-end-2
slice_bounds-fields-end-2 c =
    let row = known (goal.at.slice_bounds-fields-end-2 c).In_ok-n in
    within _ _ _ _ row

pub slice_bounds-write_numbers-end : goal.slice_bounds-write_numbers-end
slice_bounds-write_numbers-end c =
    let row = known (goal.at.slice_bounds-write_numbers-end c).In_ok-n in
    sym (own-long _ _ _ _ row)

pub returns : goal.returns
returns c =
    let room = c.args.room.now in
    let kind = c.args.kind in
    let n = c.in_ok-n.n in
    let cells = c.args.fields in
    let exceptions = c.args.exceptions.now in
    let bytes = writing (entry kind (take n cells) exceptions) in
    let row = known (goal.at.returns c).In_ok-n in
    let size = size-record kind (take n cells) exceptions in
    let sizes : c.number_size.result + c.numbers_size.result + c.numbers_size-2.result ≡ length bytes =
    omega (arith, size, c.number_size.ensures, c.numbers_size.ensures, c.numbers_size-2.ensures) in
    let x = c.write_number-first in
    let y = c.write_numbers-second in
    let z = c.write_numbers-last in
    let h : length bytes ≤ length room = subst (λ k. k ≤ length room) sizes c.if-room-size.false in
    let i : z.result ≡ length bytes = omega (arith, z.ensures.0, y.ensures.0, x.ensures.0) in
    ap₂ (λ (k : ℕ) (r : List ℕ). out (Ok k) r) i
    (all-put room _ _ _ kind (take n cells) exceptions _ _ (omega arith) x.ensures.0 y.ensures.0 x.ensures.1 y.ensures.1 z.ensures.1)
    ∙ sym (done room kind cells exceptions row.shape n row.fields h)
