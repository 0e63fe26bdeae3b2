use Rattle.agc_plan.proofs.Alarms.{novac_reached, findvac_reached}
use Rattle.agc_plan.proofs.laws.alarm_1202_with_as_many_jobs_as_sets.Goals as goal

pub returns-clause-novac : goal.returns-clause-novac
returns-clause-novac c = novac_reached

pub returns-clause-findvac : goal.returns-clause-findvac
returns-clause-findvac c = findvac_reached
