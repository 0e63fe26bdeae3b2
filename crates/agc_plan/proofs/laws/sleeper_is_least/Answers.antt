use Rattle.agc_plan.proofs.Searches.{sleeper_law, no_sleeper_law}
use Rattle.agc_plan.proofs.laws.sleeper_is_least.Goals as goal

pub returns-clause-least : goal.returns-clause-least
returns-clause-least c = sleeper_law

pub returns-clause-nobody : goal.returns-clause-nobody
returns-clause-nobody c = no_sleeper_law
