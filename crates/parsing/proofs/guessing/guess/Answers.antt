-- Each style has its own guess.
use Rattle.parsing.proofs.guessing.guess.Goals as goal

pub returns-in-Plain : goal.returns-in-Plain
returns-in-Plain c = rw c.in-Plain.is c.number_of.ensures

pub returns-in-Rate : goal.returns-in-Rate
returns-in-Rate c = rw c.in-Rate.is c.rate_in.ensures

pub returns-in-Time : goal.returns-in-Time
returns-in-Time c = rw c.in-Time.is c.time_in.ensures

pub returns-in-Side : goal.returns-in-Side
returns-in-Side c = rw c.in-Side.is c.side_in.ensures
