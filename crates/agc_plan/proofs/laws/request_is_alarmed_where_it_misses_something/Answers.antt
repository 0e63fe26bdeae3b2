use Rattle.agc_plan.proofs.Alarms.{request_alarmed}
use Rattle.agc_plan.proofs.laws.request_is_alarmed_where_it_misses_something.Goals as goal

pub returns : goal.returns
returns c = request_alarmed
