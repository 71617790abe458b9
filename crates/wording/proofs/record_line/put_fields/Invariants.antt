use lib.ListN.{take}
use Rattle.wording.specs.Text.{fields_text}
use Rattle.wording.specs.WalkLaws.{Walked}
use Rattle.wording.proofs.record_line.put_fields.Given as goal

abbrev pub invariant-loop-i : goal.invariant-loop-i
invariant-loop-i l = Walked (λ k. fields_text l.kind 0 (take k l.field-items)) l.initial.room l.at l.i l.room l.next
