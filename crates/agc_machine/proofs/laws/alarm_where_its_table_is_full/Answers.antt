use Rattle.agc_machine.proofs.Tables.{answer_alarmed, answer_ticked}
use Rattle.agc_machine.proofs.laws.alarm_where_its_table_is_full.Goals as goal

pub returns-clause-alarmed : goal.returns-clause-alarmed
returns-clause-alarmed c = answer_alarmed

pub returns-clause-ticked : goal.returns-clause-ticked
returns-clause-ticked c = answer_ticked
