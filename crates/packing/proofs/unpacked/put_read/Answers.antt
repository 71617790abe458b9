-- The list lent holds the exceptions that were read, and the line feed follows the record's text.
use mathlib.Core.Path.{◌≡◌, sym}
use mathlib.Core.Bool.{true}
use lib.ListN.{length}
use native.Mathlib.Omega.{arith}
use Rattle.fields.specs.Fields.{shaped}
use Rattle.decimal.proofs.PutLaws.{put-more}
use Rattle.wording.specs.TextLaws.{record-length}
use Rattle.packing.proofs.unpacked.put_read.Goals as goal

pub put_record-after-requires : goal.put_record-after-requires
put_record-after-requires c =
    let list = c.read_numbers-end.new.room in
    let same : length list ≡ length c.args.list.now = omega arith in
    (rw same c.requires.0, omega (arith, c.requires.1))

pub put_word-requires : goal.put_word-requires
put_word-requires c =
    let a = c.args in
    let list = c.read_numbers-end.new.room in
    let same : length list ≡ length a.list.now = omega arith in
    let shape : shaped a.read.kind a.read.fields (length list) ≡ true = rw same c.requires.0 in
    omega (arith, c.requires.1, c.put_record-after.ensures.place, record-length a.read.kind a.read.fields list shape)

pub returns : goal.returns
returns c =
    let a = c.args in
    let list = c.read_numbers-end.new.room in
    let same : length list ≡ length a.list.now = omega arith in
    let shape : shaped a.read.kind a.read.fields (length list) ≡ true = rw same c.requires.0 in
    let short = record-length a.read.kind a.read.fields list shape in
    rw (sym c.read_numbers-end.ensures.1)
    (put-more (omega (arith, c.requires.1, short)) c.put_record-after.ensures c.put_word.ensures)
