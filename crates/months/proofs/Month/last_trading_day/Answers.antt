-- By the two cases of the settlement day.
use Rattle.months.specs.Months.{last_trading_day}
use Rattle.months.proofs.Month.last_trading_day.Goals as goal

pub returns : goal.returns
unfolding last_trading_day
returns c = rw (← c.in_ok-settlement_day.ensures) c.working_before.ensures

pub returns-in_err-settlement_day : goal.returns-in_err-settlement_day
unfolding last_trading_day
returns-in_err-settlement_day c = rw (← c.in_err-settlement_day.ensures) c.from_residual.ensures
