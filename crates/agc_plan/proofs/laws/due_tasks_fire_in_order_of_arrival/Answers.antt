use Rattle.agc_plan.proofs.Firing.{tick_fires_these, tick_fires_in_order}
use Rattle.agc_plan.proofs.laws.due_tasks_fire_in_order_of_arrival.Goals as goal

pub returns-clause-arrival : goal.returns-clause-arrival
returns-clause-arrival c = tick_fires_these

pub returns-clause-in_order : goal.returns-clause-in_order
returns-clause-in_order c = tick_fires_in_order
