use mathlib.Core.Path.{sym, ap}
use native.Mathlib.Omega.{arith}
use Rattle.rates.specs.Settling.{used_from}
use Rattle.rates.proofs.used_by.Goals as goal

pub overflow_add-result : goal.overflow_add-result
overflow_add-result c =
    omega (arith, (c.requires.quotes 0).weight, (c.requires.quotes 1).weight)

pub returns-in-LastHour : goal.returns-in-LastHour
returns-in-LastHour c = sym (ap (used_from c.args.t) c.in-LastHour.is)

pub returns-in-LastFive : goal.returns-in-LastFive
returns-in-LastFive c = sym (ap (used_from c.args.t) c.in-LastFive.is)

pub returns-in-Quotes : goal.returns-in-Quotes
returns-in-Quotes c =
    sym (ap (used_from c.args.t) c.in-Quotes.is)

pub returns-in-Previous : goal.returns-in-Previous
returns-in-Previous c = sym (ap (used_from c.args.t) c.in-Previous.is)

pub returns-in-Final : goal.returns-in-Final
returns-in-Final c = sym (ap (used_from c.args.t) c.in-Final.is)
