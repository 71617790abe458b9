use mathlib.Core.Path.{sym, ap, ◌∙◌}
use Rattle.accounts.specs.declared.Account.{Account}
use Rattle.standing.specs.SoundLaws.{sound-long, sound-members}
use Rattle.particulars.specs.CarriedLaws.{held-none, held-at}
use Rattle.particulars.proofs.carried.positions_of.Goals as goal

pub find_account-requires : goal.find_account-requires
find_account-requires c = ((sound-long c.requires).counts, sound-members c.requires)

pub returns-in_default : goal.returns-in_default
returns-in_default c = c.no_positions.ensures ∙ held-none c.requires c.args.number (sym c.find_account.ensures ∙ c.in_default.is)

pub load_account-requires : goal.load_account-requires
load_account-requires c =
    (sound-long c.requires, (held-at c.requires c.args.number c.in-Some.i (sym c.find_account.ensures ∙ c.in-Some.is)).0)

pub returns : goal.returns
returns c =
    ap (λ (a : Account). a.holdings.positions) c.load_account.ensures
    ∙ (held-at c.requires c.args.number c.in-Some.i (sym c.find_account.ensures ∙ c.in-Some.is)).1
