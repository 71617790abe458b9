-- All that is left is a part up to the end; past the end nothing is left.
use mathlib.Core.Path.{sym, ap, ◌∙◌}
use mathlib.Core.List.{List}
use Prim.Native.Nat.{ℕ}
use native.Mathlib.Omega.{arith}
use Rattle.lists.specs.Parts.{part-rest}
use Rattle.records.specs.Reading.{reading_at}
use Rattle.records.specs.ReadingLaws.{rest-none}
use Rattle.records.proofs.read_rest.Goals as goal

pub returns-then-bytes-next : goal.returns-then-bytes-next
returns-then-bytes-next c = let a = c.args in sym (rest-none a.bytes.now a.next (omega arith))

pub returns : goal.returns
returns c = let a = c.args in c.read_record.ensures ∙ ap (λ (l : List ℕ). reading_at l 0) (part-rest a.next a.bytes.now)
