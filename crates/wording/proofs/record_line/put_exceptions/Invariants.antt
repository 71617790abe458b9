use lib.ListN.{take}
use Rattle.lists.specs.Block.{block}
use Rattle.wording.specs.Text.{exception_text}
use Rattle.wording.specs.WalkLaws.{Walked}
use Rattle.wording.proofs.record_line.put_exceptions.Given as goal

abbrev pub invariant-loop-exception : goal.invariant-loop-exception
invariant-loop-exception l = Walked (λ k. block exception_text (take k l.exceptions)) l.initial.room l.at l.exception-index l.room l.next
