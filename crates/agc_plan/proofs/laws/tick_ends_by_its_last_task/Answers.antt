use Rattle.agc_plan.proofs.Alarms.{tick_ends}
use Rattle.agc_plan.proofs.laws.tick_ends_by_its_last_task.Goals as goal

pub returns : goal.returns
returns c = tick_ends
