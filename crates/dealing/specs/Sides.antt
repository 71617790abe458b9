-- What the two sides of a trade say of it together: document 01's order is 12, 13, 14, whichever side asks.
use Rattle.std.specs.Prelude.{cond, List, ℕ, Result, Ok, Err}
use Rattle.positions.specs.Bounds.{Nets}
use Rattle.holdings.specs.Bounds.{Sound}
use Rattle.holdings.specs.Limits.{side_of}
use Rattle.holdings.specs.declared.Side.{Side}
use Rattle.holdings.specs.declared.Side.TheVariants.{Passes, Beyond, Over}
use Rattle.accounts.specs.declared.Account.{Account}
use Rattle.dealing.specs.declared.Dealt.{Dealt}
use Rattle.refusals.specs.declared.Refusal.{Refusal}
use Rattle.refusals.specs.declared.Refusal.TheVariants.{InDefault, NetTooLarge, OverLimit}

-- an account before a trade and after it, as far as the tests of the trade ask
pub record Moved (before after : Account) : Type 0 where
  pub sound : Sound 10000 before.holdings
  pub nets : Nets 21000 after.holdings.positions

-- "13 | net beyond 20,000", "14 | over the limit"
abbrev pub weighed : Side → Side → Result Dealt Refusal
weighed Beyond y = Err NetTooLarge
weighed (Over a) Beyond = Err NetTooLarge
weighed (Over a) (Over c) = Err OverLimit
weighed (Over a) (Passes c) = Err OverLimit
weighed (Passes a) Beyond = Err NetTooLarge
weighed (Passes a) (Over c) = Err OverLimit
weighed (Passes a) (Passes c) = Ok (record { buyer = a; seller = c })

-- "12 | account in default". Each side is the account before the trade and after it; the trade is in the contract of row k.
abbrev pub judged : List ℕ → ℕ → Account → Account → Account → Account → Result Dealt Refusal
judged margins k buyer bought seller sold =
    cond buyer.funds.flag (Err InDefault)
    (cond seller.funds.flag (Err InDefault)
    (weighed (side_of margins k buyer.holdings bought.holdings) (side_of margins k seller.holdings sold.holdings)))
