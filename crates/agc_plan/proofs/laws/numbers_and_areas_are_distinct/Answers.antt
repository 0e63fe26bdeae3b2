use Rattle.agc_plan.proofs.Steady.{reached_sets, reached_known, reached_areas}
use Rattle.agc_plan.proofs.laws.numbers_and_areas_are_distinct.Goals as goal

pub returns-clause-numbers : goal.returns-clause-numbers
returns-clause-numbers c = reached_sets

pub returns-clause-areas : goal.returns-clause-areas
returns-clause-areas c = reached_known

pub returns-clause-distinct : goal.returns-clause-distinct
returns-clause-distinct c = reached_areas
