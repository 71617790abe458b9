use mathlib.Core.List.{List}
use Prim.Native.Nat.{ℕ, ◌-◌}
use Rattle.model.specs.Book.{Book}
use Rattle.standing.specs.Standing.{view}
use Rattle.lines.specs.Lines.{rate_line}
use Rattle.lines.specs.LineLaws.{Walked}
use Rattle.lines.proofs.close_lines.put_rates.Given as goal

abbrev pub line_in : Book → ℕ → List ℕ
line_in b code = rate_line code (b.results.settled code)

abbrev pub invariant-loop-code : goal.invariant-loop-code
invariant-loop-code l =
    let b = view l.counts l.money in Walked (line_in b) b.results.codes l.initial.room l.at l.from l.room l.next

abbrev pub decreases-loop-code : goal.decreases-loop-code
decreases-loop-code l = 10000 - l.from
