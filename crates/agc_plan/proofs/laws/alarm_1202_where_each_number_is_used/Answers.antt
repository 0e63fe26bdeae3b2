use Rattle.agc_plan.proofs.Replies.{novac_1202, findvac_1202}
use Rattle.agc_plan.proofs.laws.alarm_1202_where_each_number_is_used.Goals as goal

pub returns-clause-novac : goal.returns-clause-novac
returns-clause-novac c = novac_1202

pub returns-clause-findvac : goal.returns-clause-findvac
returns-clause-findvac c = findvac_1202
