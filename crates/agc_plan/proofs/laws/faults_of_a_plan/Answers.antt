use Rattle.agc_plan.proofs.Faults.{two_rows_law, two_entries_law, each_area_law}
use Rattle.agc_plan.proofs.laws.faults_of_a_plan.Goals as goal

pub returns-clause-task_twice : goal.returns-clause-task_twice
returns-clause-task_twice c = two_rows_law

pub returns-clause-phase_twice : goal.returns-clause-phase_twice
returns-clause-phase_twice c = two_entries_law

pub returns-clause-too_many_areas : goal.returns-clause-too_many_areas
returns-clause-too_many_areas c = each_area_law
