use Rattle.std.proofs.Common.{◌≡◌, drop}
use Rattle.scan.specs.Text.{number_from, number_in}
use Rattle.scan.proofs.number_in.Given as goal

abbrev pub invariant-loop-byte : goal.invariant-loop-byte
invariant-loop-byte l = number_in l.digits ≡ number_from l.number (drop l.byte-index l.digits)
