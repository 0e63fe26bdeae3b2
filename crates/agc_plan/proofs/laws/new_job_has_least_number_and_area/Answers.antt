use Rattle.agc_plan.proofs.Replies.{novac_number, findvac_number, findvac_area}
use Rattle.agc_plan.proofs.laws.new_job_has_least_number_and_area.Goals as goal

pub returns-clause-novac : goal.returns-clause-novac
returns-clause-novac c = novac_number

pub returns-clause-findvac : goal.returns-clause-findvac
returns-clause-findvac c = findvac_number

pub returns-clause-area : goal.returns-clause-area
returns-clause-area c = findvac_area
