use mathlib.Core.List.{List}
use Prim.Native.Nat.{ℕ, ◌-◌}
use Rattle.model.specs.Book.{Book}
use Rattle.model.specs.Answers.{bill_in}
use Rattle.standing.specs.Standing.{view}
use Rattle.lines.specs.Lines.{account_line}
use Rattle.lines.specs.LineLaws.{Walked}
use Rattle.lines.proofs.close_lines.put_accounts.Given as goal

abbrev pub line_in : Book → ℕ → List ℕ
line_in b number = account_line number (bill_in b number)

abbrev pub invariant-loop-number : goal.invariant-loop-number
invariant-loop-number l =
    let b = view l.counts l.money in Walked (line_in b) b.accounts.members l.initial.room l.at l.from l.room l.next

abbrev pub decreases-loop-number : goal.decreases-loop-number
decreases-loop-number l = 10000000 - l.from
