-- By the two cases of the code.
use Rattle.calendar.proofs.codes.last_trading_of.Goals as goal

pub returns : goal.returns
returns c = rw (← c.in_ok-from_code.ensures) c.last_trading_day.ensures

pub returns-in_err-from_code : goal.returns-in_err-from_code
returns-in_err-from_code c = rw (← c.in_err-from_code.ensures) c.from_residual.ensures
