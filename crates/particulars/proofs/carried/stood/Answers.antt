use Rattle.std.specs.Prelude.{ℕ, get_or}
use Rattle.positions.specs.Deals.{flat}
use Rattle.memory.specs.Layout.{contract_at}
use Rattle.particulars.specs.Carried.{stood_at}
use borrow.Author.Rules.{rules}
use Rattle.lists.specs.Tabulate.{tab-is}
use mathlib.Core.Path.{sym}
use Rattle.booking.proofs.FromFn.{made_by}
use Rattle.particulars.specs.Particulars.{no_stood}
use Rattle.particulars.proofs.carried.stood.Goals as goal

pub returns : goal.returns
returns c =
    let made = c.from_fn.ensures.items in
    let rows = λ (k : ℕ). stood_at (contract_at c.args.counts.now c.args.money.now k) (get_or c.args.positions k flat) in
    sym (tab-is no_stood rows 6 c.from_fn.result made.long
    (λ k q. sym (made_by _ _ rows _ made (λ j y f' l called. (search rules, search rules)) k q no_stood)))
