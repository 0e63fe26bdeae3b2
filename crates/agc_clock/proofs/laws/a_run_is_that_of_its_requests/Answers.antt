use Rattle.agc_clock.proofs.Scenarios.{run_is}
use Rattle.agc_clock.proofs.laws.a_run_is_that_of_its_requests.Goals as goal

pub returns : goal.returns
returns c = run_is
