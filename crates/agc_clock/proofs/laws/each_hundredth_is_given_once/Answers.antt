use Rattle.agc_clock.proofs.Scenarios.{hundredths_are}
use Rattle.agc_clock.proofs.laws.each_hundredth_is_given_once.Goals as goal

pub returns : goal.returns
returns c = hundredths_are
