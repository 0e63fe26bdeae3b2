use Rattle.agc_plan.proofs.Replies.{listed_1203}
use Rattle.agc_plan.proofs.laws.alarm_1203_where_nine_tasks_wait.Goals as goal

pub returns : goal.returns
returns c = listed_1203
