use Rattle.agc_plan.proofs.Steady.{reached_nine}
use Rattle.agc_plan.proofs.laws.at_most_nine_tasks_wait.Goals as goal

pub returns : goal.returns
returns c = reached_nine
