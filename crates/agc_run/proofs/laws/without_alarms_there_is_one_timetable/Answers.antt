use Rattle.agc_run.proofs.Plain.{one_timetable}
use Rattle.agc_run.proofs.laws.without_alarms_there_is_one_timetable.Goals as goal

pub returns : goal.returns
returns c = one_timetable
