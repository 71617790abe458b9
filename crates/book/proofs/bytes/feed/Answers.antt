-- What was read is called, with room for the exceptions that it announces.
use mathlib.Core.Path.{◌∙◌}
use Rattle.std.proofs.lemmas.Result.{err_from_is_err_and}
use Rattle.records.specs.ReadingLaws.{Stands}
use Rattle.book.specs.FeedingLaws.{read-stands, announced-few, fed-none, fed-next}
use Rattle.book.proofs.bytes.feed.Goals as goal
use Rattle.book.proofs.bytes.feed.Goals.{In_ok-read}

-- the record that was read
stands : (c : In_ok-read) → let r = c.in_ok-read.read in Stands c.args.bytes.now c.args.at r.next r.kind r.fields r.more
stands c = read-stands (λ i. (c.type_inv.bytes i).fits) _ c.in_ok-read.ensures

pub returns-in_err-read : goal.returns-in_err-read
returns-in_err-read c =
    let p = err_from_is_err_and c.from_residual.result c.from_residual.ensures.1 in
    rw (p.1, p.2) (fed-none _ _ _ _ _ c.in_err-read.ensures)

pub call_announced-answer-requires : goal.call_announced-answer-requires
call_announced-answer-requires c =
    (c.requires, rw c.announced-count.ensures (announced-few (stands (goal.at.call_announced-answer-requires c).In_ok-read)))

pub returns : goal.returns
returns c =
    let f = c.call_announced-answer.ensures in
    fed-next (stands (goal.at.returns c).In_ok-read) f.list (f.long ∙ c.announced-count.ensures) f.called
