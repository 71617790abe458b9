-- The row of the account that a call names, or the refusal of the call.
use Rattle.std.specs.Prelude.{Bool, cond, List, ℕ, Result, Err}
use Rattle.std.specs.Option.{ok_or}
use Rattle.lists.specs.Seek.{seek}
use Rattle.memory.specs.Layout.{header_at, number_at}
use Rattle.refusals.specs.declared.Refusal.{Refusal}
use Rattle.refusals.specs.declared.Refusal.TheVariants.{NotNow, UnknownAccount}

-- refused where the call is not allowed at this point of the day, and where the account is unknown
abbrev pub place_in : List ℕ → Bool → ℕ → Result ℕ Refusal
place_in counts allowed number =
    cond allowed (ok_or (seek (number_at counts) number (header_at counts).members 0) UnknownAccount) (Err NotNow)
