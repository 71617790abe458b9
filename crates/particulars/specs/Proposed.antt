-- A trade in a listed contract that a member is a side of, with a sound memory of a day that is open.
use Rattle.std.specs.Prelude.{◌≡◌, true, List, ℕ, ℤ}
use Rattle.model.specs.Calls.{Trade}
use Rattle.model.specs.Ranged.{GoodTrade}
use Rattle.model.specs.Refusals.{is_open}
use Rattle.standing.specs.Standing.{view}
use Rattle.standing.specs.Made.{Sound}
use Rattle.standing.specs.DealLaws.{Stands}
use Rattle.particulars.specs.Particulars.{IsSide}

pub record Proposed (c : List ℕ) (m : List ℤ) (t : Trade) (n k i : ℕ) : Type 0 where
  pub sound : Sound c m
  pub live : is_open (view c m).today.point ≡ true
  pub contract : Stands (view c m).contracts.codes t.code k
  pub side : Stands (view c m).accounts.members n i
  pub range : GoodTrade t
  pub party : IsSide t n
