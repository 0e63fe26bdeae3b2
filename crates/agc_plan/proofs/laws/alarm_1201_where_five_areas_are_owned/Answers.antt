use Rattle.agc_plan.proofs.Replies.{findvac_1201, novac_1201}
use Rattle.agc_plan.proofs.laws.alarm_1201_where_five_areas_are_owned.Goals as goal

pub returns-clause-findvac : goal.returns-clause-findvac
returns-clause-findvac c = findvac_1201

pub returns-clause-novac : goal.returns-clause-novac
returns-clause-novac c = novac_1201
