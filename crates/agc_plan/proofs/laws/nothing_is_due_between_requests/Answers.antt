use Rattle.agc_plan.proofs.Firing.{reached_nothing_due}
use Rattle.agc_plan.proofs.laws.nothing_is_due_between_requests.Goals as goal

pub returns : goal.returns
returns c = reached_nothing_due
