-- The record is fed to the book, and what the book answers is put.
use Rattle.std.proofs.Common.{arith}
use Rattle.printing.specs.FedLaws.{fed-sound, bad-printed, answer-printed}
use Rattle.printing.proofs.one_record.print_record.Goals as goal

pub put_answer-after-requires : goal.put_answer-after-requires
put_answer-after-requires c = (fed-sound c.feed.ensures c.in-Ok.is, omega arith)

pub returns-in-Err : goal.returns-in-Err
returns-in-Err c = bad-printed c.feed.ensures c.in-Err.is c.put_bad.ensures

pub returns-in-Ok : goal.returns-in-Ok
returns-in-Ok c =
    answer-printed c.feed.ensures (λ i. (c.shared_slice_known-2-1.given i).fits) c.in-Ok.is
    c.from-kind.ensures c.put_answer-after.ensures
