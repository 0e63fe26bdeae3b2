use Rattle.agc_plan.proofs.Worked.{worked}
use Rattle.agc_plan.proofs.laws.worked_examples.Goals as goal

pub returns : goal.returns
returns c = worked
