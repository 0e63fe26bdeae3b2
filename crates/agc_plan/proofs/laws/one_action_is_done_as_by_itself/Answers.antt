use Rattle.agc_plan.proofs.Alarms.{one_done, one_those}
use Rattle.agc_plan.proofs.laws.one_action_is_done_as_by_itself.Goals as goal

pub returns-clause-done : goal.returns-clause-done
returns-clause-done c = one_done

pub returns-clause-those : goal.returns-clause-those
returns-clause-those c = one_those
