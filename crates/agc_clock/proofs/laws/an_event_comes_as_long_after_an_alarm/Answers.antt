use Rattle.agc_clock.proofs.Hearing.{as_long_after}
use Rattle.agc_clock.proofs.laws.an_event_comes_as_long_after_an_alarm.Goals as goal

pub returns : goal.returns
returns c = as_long_after
