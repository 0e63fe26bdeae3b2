use Rattle.agc_plan.proofs.Steady.{reached_somebody, reached_runner}
use Rattle.agc_plan.proofs.laws.somebody_runs_where_somebody_is_awake.Goals as goal

pub returns-clause-exactly : goal.returns-clause-exactly
returns-clause-exactly c = reached_somebody

pub returns-clause-runner : goal.returns-clause-runner
returns-clause-runner c = reached_runner
