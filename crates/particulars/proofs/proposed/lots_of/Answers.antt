use mathlib.Core.Path.{◌∙◌}
use borrow.Author.Tests.{ne_eqb}
use lib.IntN.{pos, neg_ℤ, +ℤ_idl}
use mir.Syntax.{w64}
use mir.Val.{to_z}
use Rattle.whole.specs.Within.{lit}
use Rattle.whole.specs.Machine.{Reads, now, unsigned, sub, kept, fits}
use Rattle.dealing.specs.Dealing.{trade_of}
use Rattle.particulars.specs.AskedLaws.{bought, sold}
use Rattle.particulars.proofs.proposed.lots_of.Goals as goal
use Rattle.particulars.proofs.proposed.lots_of.Goals.{Start}

lots : (s : Start) → Reads 1000 (to_z w64 s.args.t.lots) (pos s.args.t.lots)
lots s = unsigned s.requires.0.most tt

pub returns-then-number-t : goal.returns-then-number-t
returns-then-number-t c =
    (lots (goal.at.returns-then-number-t c).Start).eq ∙ bought (trade_of c.args.t) c.args.number c.if-number-t.true

pub overflow_sub-result : goal.overflow_sub-result
overflow_sub-result c = fits (sub (now (lit (pos 0))) (lots (goal.at.overflow_sub-result c).Start)) tt

pub returns : goal.returns
returns c =
    let t = c.args.t in
    (kept (sub (now (lit (pos 0))) (lots (goal.at.returns c).Start)) tt).eq
    ∙ +ℤ_idl (neg_ℤ (pos t.lots))
    ∙ sold (trade_of t) c.args.number c.requires.1 (ne_eqb c.args.number t.buyer c.if-number-t.false)
