-- What the line says is put, with the exceptions that were read into the list.
use Rattle.packing.specs.PackLaws.{record-put, put-most}
use Rattle.packing.proofs.one_line.pack_record.Goals as goal

pub returns-clause-at_most : goal.returns-clause-at_most
returns-clause-at_most g c =
    let r = c.in-Ok.read in
    let said = c.in-Ok.ensures in
    put-most (record-put r.kind r.fields c.read_line-reading.new.list said.1 said.0 (rw c.announced-count.ensures at c.put_bytes-after.ensures))
