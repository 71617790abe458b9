-- How far a net may go.
use Rattle.std.specs.Prelude.{Bool, ltb, nat_abs}
use Rattle.positions.specs.declared.Position.{Position}

-- Document 01, Units and ceilings: "net lots, account and contract | -20,000 | 20,000". Refusal 13: "net beyond 20,000".
abbrev pub is_beyond : Position → Bool
is_beyond p = ltb 20000 (nat_abs p.net)
