use Rattle.agc_clock.proofs.Hearing.{nothing_moved}
use Rattle.agc_clock.proofs.laws.an_alarm_moves_nothing_that_came.Goals as goal

pub returns : goal.returns
returns c = nothing_moved
