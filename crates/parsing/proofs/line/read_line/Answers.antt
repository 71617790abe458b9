-- The word of a kind, its fields, and what follows them.
use Rattle.std.proofs.Common.{◌≡◌, sym, ◌∙◌, ℕ, ◌<◌, take, arith, rules}
use Rattle.std.specs.Prelude.{Result, Err}
use Rattle.std.proofs.lemmas.Result.{err_from_is_err_and}
use Rattle.fields.specs.Fields.{count}
use Rattle.fields.specs.FieldLaws.{counted, uncounted, counts-most}
use Rattle.wording.specs.Words.{word_of}
use Rattle.parsing.specs.declared.line.LineError.{LineError}
use Rattle.parsing.specs.declared.line.LineError.TheVariants.{NoKind, NoField}
use Rattle.wording.specs.Text.{field_text}
use Rattle.parsing.specs.Places.{Row}
use Rattle.parsing.specs.LineLaws.{behind-names, no_kind, no_field, no-tail, record-there}
use Rattle.parsing.proofs.Mapped.{mapped_ok, mapped_err}
use Rattle.parsing.proofs.line.read_line.Goals as goal
use Rattle.parsing.proofs.line.read_line.Goals.{In_ok-kind, In_ok-n, In_ok-read}

-- the word is that of the kind
worded : (c : In_ok-kind) → (c.in_ok-kind.kind < 13) × (take c.byte_end-word.result c.args.line.now ≡ word_of c.in_ok-kind.kind)
worded c = rw c.in_ok-kind.ensures.ok_part at c.kind_in.ensures

-- and has as many fields
numbered : (c : In_ok-n) → c.in_ok-n.n ≡ count c.in_ok-kind.kind
numbered c = (counted c.in_ok-kind.kind c.in_ok-n.n (sym c.count_of.ensures ∙ c.in_ok-n.ensures.ok_part)).1

pub returns-in_err-kind : goal.returns-in_err-kind
returns-in_err-kind c =
    let p = err_from_is_err_and c.from_residual.result c.from_residual.ensures.1 in
    let none = c.in_err-kind.ensures.ok_part in
    let said : ◌≡◌ {A = Result ℕ LineError} (Err c.in_err-kind.field-0.0) (Err NoKind) = rw none at c.in_err-kind.ensures.value in
    let same : c.in_err-kind.field-0.0 ≡ NoKind = cc in
    let other = rw none at c.kind_in.ensures in (
      rw (p.1, p.2, same) (
        tt,
        rw c.byte_end-word.ensures.0 at other,
        no_kind c.args.line.now c.byte_end-word.result c.byte_end-word.ensures.0 other,
      ),
      c.requires,
    )

pub returns-in_err-n : goal.returns-in_err-n
returns-in_err-n c =
    let many = uncounted c.in_ok-kind.kind (sym c.count_of.ensures ∙ c.in_err-n.ensures.ok_part) in
    absurd (omega (arith, many, (worded (goal.at.returns-in_err-n c).In_ok-kind).0))

pub fields_in-requires : goal.fields_in-requires
fields_in-requires c =
    let place = goal.at.fields_in-requires c in
    let n = numbered place.In_ok-n in
    (omega (arith, c.byte_end-word.ensures.2), (worded place.In_ok-kind).0, n, omega (arith, n, counts-most c.in_ok-kind.kind))

pub returns-in_err-read : goal.returns-in_err-read
returns-in_err-read c =
    let place = goal.at.returns-in_err-read c in
    let kind = c.in_ok-kind.kind in
    let w = worded place.In_ok-kind in
    let n = numbered place.In_ok-n in
    let p = err_from_is_err_and c.from_residual-in_err-read.result c.from_residual-in_err-read.ensures.1 in
    let m =
    mapped_err c.fields_in.result c.map_err.result _ c.map_err.ensures.cases c.in_err-read.field-0.0
    (λ i e. e ≡ NoField kind i) (λ i e k. search rules) c.in_err-read.was in
    let missing = rw m.1 at c.fields_in.ensures in
    rw (p.1, p.2, m.2) (
      (
        omega (arith, missing.0, n),
        rw c.byte_end-word.ensures.0 at w.1,
        no_field c.args.line.now c.byte_end-word.result c.byte_end-word.ensures.0 kind c.in_ok-n.n w.0 w.1 n missing.1,
      ),
      c.requires,
    )

-- the fields stand in the row, with zeros after them
row : (c : In_ok-read) → Row (field_text c.in_ok-kind.kind) c.in_ok-n.n c.args.line.now c.byte_end-word.result c.in_ok-read.read
row c = rw (mapped_ok c.fields_in.result c.map_err.result _ c.map_err.ensures.cases c.in_ok-read.read c.in_ok-read.was) at c.fields_in.ensures

pub returns-in_err-after_fields : goal.returns-in_err-after_fields
returns-in_err-after_fields c =
    let place = goal.at.returns-in_err-after_fields c in
    let w = worded place.In_ok-kind in
    let r = row place.In_ok-read in
    let p = err_from_is_err_and c.from_residual-in_err-after_fields.result c.from_residual-in_err-after_fields.ensures.1 in
    let t = c.in_err-after_fields.ensures in
    let names = behind-names c.args.line.now c.in_ok-kind.kind _ _ w.0 (rw c.byte_end-word.ensures.0 at w.1) t.0.0 in
    rw (p.1, p.2) (
      (
        names.0,
        names.1,
        no-tail c.args.line.now c.byte_end-word.result c.byte_end-word.ensures.0 c.in_ok-kind.kind c.in_ok-n.n
            w.0 w.1 (numbered place.In_ok-n) _ c.in_ok-read.read.values r.passed r.width r.zeros (rw c.announced.ensures at t.0.1),
      ),
      t.1,
    )

pub returns : goal.returns
returns c =
    let place = goal.at.returns c in
    let w = worded place.In_ok-kind in
    let r = row place.In_ok-read in
    let t = c.in_ok-after_fields.ensures in (
      record-there c.args.line.now c.byte_end-word.result c.byte_end-word.ensures.0 c.in_ok-kind.kind c.in_ok-n.n
          w.0 w.1 (numbered place.In_ok-n) _ c.in_ok-read.read.values r.passed r.width r.zeros c.after_fields.new.list
          (rw c.announced.ensures at t.0),
      t.1,
    )
