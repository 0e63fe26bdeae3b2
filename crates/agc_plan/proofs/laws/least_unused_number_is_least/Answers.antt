use Rattle.agc_plan.proofs.Searches.{least_unused_law, each_used_law}
use Rattle.agc_plan.proofs.laws.least_unused_number_is_least.Goals as goal

pub returns-clause-least : goal.returns-clause-least
returns-clause-least c = least_unused_law

pub returns-clause-full : goal.returns-clause-full
returns-clause-full c = each_used_law
