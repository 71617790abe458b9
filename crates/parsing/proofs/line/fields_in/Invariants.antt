use Rattle.std.proofs.Common.{take}
use Rattle.wording.specs.Text.{field_text}
use Rattle.parsing.specs.Places.{Passed}
use Rattle.parsing.proofs.line.fields_in.Given as goal

abbrev pub invariant-loop-i : goal.invariant-loop-i
invariant-loop-i l = Passed (field_text l.kind) l.n l.line l.at l.place (take l.i l.value-items)
