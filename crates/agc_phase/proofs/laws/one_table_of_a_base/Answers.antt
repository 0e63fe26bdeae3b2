use Rattle.agc_phase.proofs.OneTable.{one_table}
use Rattle.agc_phase.proofs.laws.one_table_of_a_base.Goals as goal

pub returns : goal.returns
returns c = one_table
