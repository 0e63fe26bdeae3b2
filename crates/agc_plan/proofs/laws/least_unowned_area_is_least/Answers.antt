use Rattle.agc_plan.proofs.Searches.{least_unowned_law, each_owned_law}
use Rattle.agc_plan.proofs.laws.least_unowned_area_is_least.Goals as goal

pub returns-clause-least : goal.returns-clause-least
returns-clause-least c = least_unowned_law

pub returns-clause-full : goal.returns-clause-full
returns-clause-full c = each_owned_law
