-- What the call answers is a length by what is asked of it.
use Rattle.std.proofs.Math.Path.{refl}
use Rattle.pages.proofs.pieces.Piece.made.Goals as goal

pub invariant_of-result : goal.invariant_of-result
invariant_of-result g c =
    record { short = c.requires.short _ _ _ (record { shown = _; shows = refl; left = _; met = c.put-length.ensures; leaves = refl }) }
