use Rattle.agc_plan.proofs.Steady.{step_ended, step_slept, step_prio, step_changed}
use Rattle.agc_plan.proofs.laws.nobody_more_urgent_waits.Goals as goal

pub returns-clause-ended : goal.returns-clause-ended
returns-clause-ended c = step_ended

pub returns-clause-slept : goal.returns-clause-slept
returns-clause-slept c = step_slept

pub returns-clause-prio : goal.returns-clause-prio
returns-clause-prio c = step_prio

pub returns-clause-changed : goal.returns-clause-changed
returns-clause-changed c = step_changed
