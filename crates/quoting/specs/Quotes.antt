-- Whether there is room for a quote, and a contract's row after one.
use Rattle.std.specs.Prelude.{Bool, not, ◌||◌, ℕ, ltb}
use Rattle.tallies.specs.Day.{in_last_hour}
use Rattle.tallies.specs.Means.{weighted}
use Rattle.tallies.specs.Tally.{side_in, with_quote}
use Rattle.tallies.specs.declared.Tally.{Tally}
use Rattle.memory.specs.declared.contract_rows.Contract.{Contract}
use Rattle.model.specs.Calls.{Quote}
use Rattle.standing.specs.DealLaws.{with_tally}

-- "last-hour quotes, contract and side, in a day | 0 | 10,000". A quote outside the last hour takes no room.
abbrev pub has_room : Tally → ℕ → ℕ → Bool
has_room t time side = not (in_last_hour time) || ltb (side_in t side).weight 10000

abbrev pub quoted_row : Contract → Quote → Contract
quoted_row x q = with_tally x (with_quote x.tally q.time q.side (weighted 1 q.rate))
