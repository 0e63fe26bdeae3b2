use Rattle.agc_clock.proofs.Scenarios.{ticks_are}
use Rattle.agc_clock.proofs.laws.a_run_has_a_tick_each_centisecond.Goals as goal

pub returns : goal.returns
returns c = ticks_are
