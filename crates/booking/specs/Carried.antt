-- What a close leaves of positions.
use Rattle.std.specs.Prelude.{cond, List}
use Rattle.lists.specs.Zipped.{zipped}
use Rattle.positions.specs.Deals.{overnight, flat}
use Rattle.positions.specs.declared.Position.{Position}
use Rattle.positions.specs.declared.Mark.{Mark}

-- The net of now is the net before the next day. Document 01, Close: "an ending contract's positions become zero".
abbrev pub carried : Position → Mark → Position
carried p m = cond m.ending flat (overnight p.net)

unfoldable pub all_carried : List Position → List Mark → List Position
all_carried ps marks = zipped carried ps marks
