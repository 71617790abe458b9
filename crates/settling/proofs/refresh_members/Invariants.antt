use Rattle.accounts.specs.Accounts.{refreshed}
use Rattle.accounts.specs.declared.Account.{Account}
use Rattle.memory.specs.Memory.{Holds}
use Rattle.model.specs.Book.{Book}
use Rattle.standing.specs.Standing.{rows_of, view}
use Rattle.standing.specs.WalkLaws.{walked}
use Rattle.settling.proofs.refresh_members.Given as goal

-- one account refreshed at the book's reference rate
abbrev pub change : Book → Account → Account
change b = refreshed b.settings.reference

abbrev pub invariant-loop-row : goal.invariant-loop-row
invariant-loop-row l = let b = view l.initial.counts l.initial.money in Holds l.counts l.money (walked (rows_of b) (change b) l.row)
