use Rattle.agc_clock.proofs.Beats.{comes_again}
use Rattle.agc_clock.proofs.laws.stolen_time_comes_again.Goals as goal

pub returns : goal.returns
returns c = comes_again
