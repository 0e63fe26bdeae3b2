use Rattle.agc_wait.proofs.Histories.{FiresWhenDue-is}
use Rattle.agc_wait.proofs.laws.tasks_fire_when_due.Goals as goal

pub returns : goal.returns
returns c = FiresWhenDue-is
