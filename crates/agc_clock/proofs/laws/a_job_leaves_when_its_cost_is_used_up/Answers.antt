use Rattle.agc_clock.proofs.Spending.{leaves_by_cost}
use Rattle.agc_clock.proofs.laws.a_job_leaves_when_its_cost_is_used_up.Goals as goal

pub returns : goal.returns
returns c = leaves_by_cost
