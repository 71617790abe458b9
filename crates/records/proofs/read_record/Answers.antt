-- Each step goes from place to place: the kind, its count of fields, the fields.
use mathlib.Core.Path.{◌≡◌, sym, ap, ◌∙◌}
use mathlib.Core.List.{List}
use Prim.Native.Nat.{ℕ, ◌<◌}
use lib.ListN.{drop}
use Rattle.std.specs.Prelude.{Option, Some, None, Err}
use Rattle.std.specs.Option.{ok_or}
use Rattle.std.proofs.lemmas.Result.{err_from_is_err_and}
use Rattle.numbers.specs.Below.{Small}
use Rattle.numbers.specs.Several.{many, some}
use Rattle.decoding.specs.PlaceLaws.{Moved, value-is, bad-is, Ran, ran}
use Rattle.fields.specs.Fields.{count}
use Rattle.fields.specs.FieldLaws.{is_known, is-unknown, counts-most, counted, uncounted}
use Rattle.records.specs.declared.Malformed.{Malformed}
use Rattle.records.specs.Reading.{padded}
use Rattle.records.specs.Steps.{filled, after_fields}
use Rattle.records.specs.ReadingLaws.{filled_none, filled_end, filled_row, no_number, no_kind, no_fields, fields_read}
use Rattle.records.proofs.read_record.Goals as goal
use Rattle.records.proofs.read_record.Goals.{In_ok-kind, In_ok-n, In_ok-read}

-- what is not found is refused at the place that the code gives
bad_at : {T : Type 0} (found : Option T) {bad said : Malformed} → Err said ≡ ok_or found bad → said ≡ bad
bad_at None e = cc
bad_at (Some x) e = cc

-- the kind, and the place after it
number : (c : In_ok-kind) → Moved c.args.bytes.now c.args.at c.in_ok-kind.kind c.in_ok-kind.start
number c = value-is c.args.bytes.now c.args.at _ _ (sym c.read_number.ensures ∙ c.in_ok-kind.ensures.ok_part)

-- how many fields it has
fields-known : (c : In_ok-n) → (c.in_ok-kind.kind < 13) × (c.in_ok-n.n ≡ count c.in_ok-kind.kind)
fields-known c = counted _ _ (sym c.count_of.ensures ∙ c.in_ok-n.ensures.ok_part)

-- ---- the fields were read
module _ (c : In_ok-read) where
  abbrev s : List ℕ
  s = c.args.bytes.now

  abbrev kind : ℕ
  kind = c.in_ok-kind.kind

  abbrev start : ℕ
  start = c.in_ok-kind.start

  moved : Moved s c.args.at kind start
  moved = number (goal.at.In_ok-read c).In_ok-kind

  kind-known : (kind < 13) × (c.in_ok-n.n ≡ count kind)
  kind-known = fields-known (goal.at.In_ok-read c).In_ok-n

  bytes_small : Small s
  bytes_small i = (c.type_inv.bytes i).fits

  read : filled s (many c.in_ok-n.n (drop start s)) ≡ Some c.in_ok-read.read
  read = sym c.read_fields.ensures ∙ c.in_ok-read.ensures.ok_part

  numbers : Ran s start c.in_ok-n.n c.in_ok-read.read.end
  numbers = ran s start c.in_ok-n.n c.in_ok-read.read.end bytes_small moved.inside (filled_end s _ _ read)

  numbers-is : many (count kind) (drop start s) ≡ some numbers.list (drop c.in_ok-read.read.end s)
  numbers-is = ap (λ z. many z (drop start s)) (sym kind-known.1) ∙ numbers.is

  row : c.in_ok-read.read.values ≡ padded numbers.list
  row = filled_row s _ _ _ _ read numbers.is

pub returns-in_err-kind : goal.returns-in_err-kind
returns-in_err-kind c =
    let a = c.args in
    let told = c.in_err-kind.ensures in
    let p = err_from_is_err_and c.from_residual.result c.from_residual.ensures.1 in
    p.1 ∙ ap Err (p.2 ∙ bad_at _ told.value)
    ∙ sym (no_number a.bytes.now a.at 0 0 (bad-is a.bytes.now a.at (sym c.read_number.ensures ∙ told.ok_part)))

pub returns-in_err-n : goal.returns-in_err-n
returns-in_err-n c =
    let told = c.in_err-n.ensures in
    let p = err_from_is_err_and c.from_residual-in_err-n.result c.from_residual-in_err-n.ensures.1 in
    p.1 ∙ ap Err (p.2 ∙ bad_at _ told.value)
    ∙ sym (no_kind _ _ _ _ (number (goal.at.returns-in_err-n c).In_ok-kind) (is-unknown _ (uncounted _ (sym c.count_of.ensures ∙ told.ok_part))))

pub read_fields-requires : goal.read_fields-requires
read_fields-requires c =
    let p = goal.at.read_fields-requires c in
    ((number p.In_ok-kind).inside, rw (fields-known p.In_ok-n).1 (counts-most c.in_ok-kind.kind))

pub returns-in_err-read : goal.returns-in_err-read
returns-in_err-read c =
    let at = goal.at.returns-in_err-read c in
    let s = c.args.bytes.now in
    let n = fields-known at.In_ok-n in
    let told = c.in_err-read.ensures in
    let p = err_from_is_err_and c.from_residual-in_err-read.result c.from_residual-in_err-read.ensures.1 in
    p.1 ∙ ap Err (p.2 ∙ bad_at _ told.value)
    ∙ sym (no_fields _ _ _ _ (number at.In_ok-kind) (is_known _ n.0)
    (ap (λ z. many z (drop c.in_ok-kind.start s)) (sym n.1) ∙ filled_none s _ (sym c.read_fields.ensures ∙ told.ok_part)))

pub with_exceptions-requires : goal.with_exceptions-requires
with_exceptions-requires c = (numbers (goal.at.with_exceptions-requires c).In_ok-read).inside

pub returns : goal.returns
returns c =
    let e = (goal.at.returns c).In_ok-read in
    c.with_exceptions.ensures
    ∙ ap (λ z. after_fields (s e) c.args.at (kind e) z c.in_ok-read.read.end) (row e)
    ∙ sym (fields_read (s e) c.args.at (kind e) (start e) (moved e) (is_known (kind e) (kind-known e).0) (bytes_small e) (numbers e).list c.in_ok-read.read.end (numbers-is e) (numbers e).size)
