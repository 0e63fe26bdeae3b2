use Rattle.agc_plan.proofs.Replies.{novac_unchanged, findvac_unchanged, listed_unchanged}
use Rattle.agc_plan.proofs.laws.alarm_changes_nothing.Goals as goal

pub returns-clause-novac : goal.returns-clause-novac
returns-clause-novac c = novac_unchanged

pub returns-clause-findvac : goal.returns-clause-findvac
returns-clause-findvac c = findvac_unchanged

pub returns-clause-listed : goal.returns-clause-listed
returns-clause-listed c = listed_unchanged
