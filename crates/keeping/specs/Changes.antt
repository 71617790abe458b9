-- What is set for an account besides its positions.
use Rattle.std.specs.Prelude.{ℕ}
use Rattle.holdings.specs.Holdings.{with_limits, with_special}
use Rattle.holdings.specs.declared.Holdings.{Holdings}
use Rattle.model.specs.Calls.{Call, set_special, set_limits}
use Rattle.keeping.specs.declared.members.Change.{Change}
use Rattle.keeping.specs.declared.members.Change.TheVariants.{Special, Coming}

abbrev pub changed : Holdings → Change → Holdings
changed h (Special x) = with_special h x
changed h (Coming l) = with_limits h l

-- the call that sets it
abbrev pub change_call : ℕ → Change → Call
change_call n (Special x) = set_special n x
change_call n (Coming l) = set_limits n l
