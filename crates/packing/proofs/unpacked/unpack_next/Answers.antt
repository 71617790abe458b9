-- A record whose line is put brings the reader on.
use Rattle.packing.specs.LineLaws.{line-further}
use Rattle.packing.proofs.unpacked.unpack_next.Goals as goal

pub returns : goal.returns
returns c =
    let f = line-further (λ i. (c.type_inv.bytes i).fits) (rw c.in_ok-at.ensures.ok_part at c.put_line.ensures) in
    record { on = f.on; inside = f.inside; text = f.text }
