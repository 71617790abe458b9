use Rattle.whole.specs.Machine.{told}
use Rattle.day_end.specs.ReadLaws.{renewed-read, renewed-past}
use Rattle.day_end.proofs.renewals.renewed_at.Goals as goal

pub returns-then-k-lt6 : goal.returns-then-k-lt6
returns-then-k-lt6 c r w =
    rw (told _ c.struct_told-1.given.1.0.1, c.empty_tally-tally.ensures)
    (rw (c.load_contract-x.ensures, c.load_outcome-o.ensures) (renewed-read r w _ c.if-k-lt6.true))

pub returns : goal.returns
returns c r w = rw c.empty_tally-tally.ensures (renewed-past r w _ c.if-k-lt6.false)
