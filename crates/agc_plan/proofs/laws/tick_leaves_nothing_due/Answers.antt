use Rattle.agc_plan.proofs.Firing.{tick_nothing_due}
use Rattle.agc_plan.proofs.laws.tick_leaves_nothing_due.Goals as goal

pub returns : goal.returns
returns c = tick_nothing_due
