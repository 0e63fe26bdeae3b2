use Rattle.agc_plan.proofs.Searches.{best_law, nobody_law}
use Rattle.agc_plan.proofs.laws.best_job_is_most_urgent.Goals as goal

pub returns-clause-best : goal.returns-clause-best
returns-clause-best c = best_law

pub returns-clause-nobody : goal.returns-clause-nobody
returns-clause-nobody c = nobody_law
