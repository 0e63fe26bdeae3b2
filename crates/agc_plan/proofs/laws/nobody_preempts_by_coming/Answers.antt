use Rattle.agc_plan.proofs.Sound.{novac_running, findvac_running, rouse_running}
use Rattle.agc_plan.proofs.laws.nobody_preempts_by_coming.Goals as goal

pub returns-clause-novac : goal.returns-clause-novac
returns-clause-novac c = novac_running

pub returns-clause-findvac : goal.returns-clause-findvac
returns-clause-findvac c = findvac_running

pub returns-clause-roused : goal.returns-clause-roused
returns-clause-roused c = rouse_running
