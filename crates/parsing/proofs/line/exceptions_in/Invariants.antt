use Rattle.std.proofs.Common.{take}
use Rattle.wording.specs.Text.{exception_text}
use Rattle.parsing.specs.Places.{Passed}
use Rattle.parsing.proofs.line.exceptions_in.Given as goal

abbrev pub invariant-loop-i : goal.invariant-loop-i
invariant-loop-i l = Passed (λ _. exception_text) l.n l.line l.at l.place (take l.i l.slot-items)
