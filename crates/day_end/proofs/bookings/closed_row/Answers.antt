use native.Mathlib.Omega.{arith}
use Rattle.accounts.specs.Accounts.{closed}
use Rattle.accounts.specs.Bounds.{Sound}
use Rattle.accounts.specs.BoundLaws.{closed-sound}
use Rattle.day_end.proofs.bookings.closed_row.Goals as goal

pub moved_up-holdings-requires : goal.moved_up-holdings-requires
moved_up-holdings-requires c =
    let after : Sound 0 3654 (closed c.args.d c.args.a) = closed-sound c.requires.0 (omega arith) c.requires.1 in
    rw c.close_account-x.ensures after.holdings.positions.nets.six
